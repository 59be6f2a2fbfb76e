use Rattle.std.proofs.Common.{◌≡◌, drop}
use Rattle.spec_language.specs.Draft as drafts
use Rattle.std.specs.List.{list_all}
use Rattle.spec_language.proofs.literals.are_literals_known.Given as goal

abbrev pub invariant-loop-x : goal.invariant-loop-x
invariant-loop-x l = list_all (drafts.is_literal_known l.preds l.vars) (drop l.x-index l.literals) ≡ list_all (drafts.is_literal_known l.preds l.vars) l.literals
