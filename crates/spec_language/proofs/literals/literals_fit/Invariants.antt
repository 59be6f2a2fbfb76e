use Rattle.std.proofs.Common.{◌≡◌, drop}
use Rattle.spec_language.specs.Draft as drafts
use Rattle.std.specs.List.{list_all}
use Rattle.spec_language.proofs.literals.literals_fit.Given as goal

abbrev pub invariant-loop-x : goal.invariant-loop-x
invariant-loop-x l = list_all (drafts.literal_fits l.preds l.vars) (drop l.x-index l.literals) ≡ list_all (drafts.literal_fits l.preds l.vars) l.literals
