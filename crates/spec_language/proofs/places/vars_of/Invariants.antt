use Rattle.std.proofs.Common.{◌≡◌, ◌++◌, drop, map}
use Rattle.spec_language.specs.Draft as drafts
use Rattle.spec_language.proofs.places.vars_of.Given as goal

abbrev pub invariant-loop-x : goal.invariant-loop-x
invariant-loop-x l = l.found ++ map (drafts.var_of l.sorts) (drop l.x-index l.vars) ≡ map (drafts.var_of l.sorts) l.vars
