use Rattle.std.proofs.Common.{◌≡◌, ◌++◌, drop}
use Rattle.effect_model.specs.Rights.{cell_rights}
use Rattle.effect_model.proofs.right_list.list_cells.Given as goal

abbrev pub invariant-loop-at : goal.invariant-loop-at
invariant-loop-at l = l.out ++ cell_rights l.family l.spec l.at (drop l.at l.spec.nums) ≡ l.fn.out ++ cell_rights l.family l.spec 0 l.spec.nums
