use Rattle.std.proofs.Common.{◌≡◌, ◌++◌, drop}
use Rattle.ground_clauses.specs.Cases.{classes_in}
use Rattle.rejection_text.specs.Texts.{params_from}
use Rattle.rejection_text.proofs.parts.put_each_param.Given as goal

abbrev pub invariant-loop-at : goal.invariant-loop-at
invariant-loop-at l = l.out ++ params_from (classes_in l.spec l.case) l.bits l.at (drop l.at l.params) l.left ≡ l.fn.out ++ params_from (classes_in l.spec l.case) l.bits 0 l.params l.classes
