use Rattle.std.proofs.Common.{◌≡◌, ◌++◌, drop, map}
use Rattle.spec_language.specs.Draft as drafts
use Rattle.spec_language.proofs.effect.terms_of.Given as goal

abbrev pub invariant-loop-x : goal.invariant-loop-x
invariant-loop-x l = l.found ++ map (drafts.term_of l.params) (drop l.x-index l.terms) ≡ map (drafts.term_of l.params) l.terms
