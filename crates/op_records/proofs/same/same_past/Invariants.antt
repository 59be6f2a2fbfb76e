use Rattle.std.proofs.Common.{◌≡◌, ◌↔◌, drop}
use Rattle.op_records.proofs.same.same_past.Given as goal

abbrev pub invariant-loop-count : goal.invariant-loop-count
invariant-loop-count l = (drop l.count-index l.a ≡ l.left) ↔ (l.a ≡ l.b)
