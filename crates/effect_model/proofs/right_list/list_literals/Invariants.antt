use Rattle.std.proofs.Common.{◌≡◌, ◌++◌, ◌+◌, drop}
use Rattle.effect_model.specs.Rights.{entries_from}
use Rattle.effect_model.proofs.right_list.list_literals.Given as goal

abbrev pub invariant-loop-at : goal.invariant-loop-at
invariant-loop-at l = l.out ++ entries_from l.clause l.args (l.first + l.at) (drop l.at l.literals) ≡ l.fn.out ++ entries_from l.clause l.args l.first l.literals
