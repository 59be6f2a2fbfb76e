use Rattle.std.proofs.Common.{◌≡◌, ◌++◌, drop, map, true}
use Rattle.spec_language.specs.Draft as drafts
use Rattle.std.specs.List.{list_all}
use Rattle.spec_language.proofs.literals.literals_of.Given as goal

abbrev pub invariant-loop-x : goal.invariant-loop-x
invariant-loop-x l = (l.found ++ map (drafts.literal_of l.preds l.vars) (drop l.x-index l.literals) ≡ map (drafts.literal_of l.preds l.vars) l.literals) × (list_all (drafts.literal_fits l.preds l.vars) (drop l.x-index l.literals) ≡ true)
