use Rattle.std.proofs.Common.{◌≡◌, ◌-◌, length}
use Rattle.op_records.specs.Reading.{span_at, many_at}
use Rattle.op_records.proofs.Loop.{with_front}
use Rattle.op_records.proofs.cursor.Cursor.spans_of.Given as goal

abbrev pub invariant-loop : goal.invariant-loop
invariant-loop l = (with_front l.spans (many_at span_at (l.count - l.counter) l.self) ≡ many_at span_at l.count l.fn.self) × (length l.spans ≡ l.counter)
