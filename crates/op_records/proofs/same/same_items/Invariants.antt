use Rattle.std.proofs.Common.{◌≡◌, ◌↔◌, drop}
use Rattle.op_records.proofs.same.same_items.Given as goal

abbrev pub invariant-loop-item : goal.invariant-loop-item
invariant-loop-item l = (drop l.item-index l.a ≡ l.left) ↔ (l.a ≡ l.b)
