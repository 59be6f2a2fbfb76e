use Rattle.std.proofs.Common.{◌≡◌, ◌-◌, length, take}
use Rattle.op_records.specs.Reading.{many_at, number_at}
use Rattle.op_records.proofs.Loop.{with_front}
use Rattle.op_records.proofs.cursor.Cursor.has_counts.Given as goal

abbrev pub invariant-loop-count : goal.invariant-loop-count
invariant-loop-count l = with_front (take l.count-index l.counts) (many_at (number_at 4) (length l.counts - l.count-index) l.self) ≡ many_at (number_at 4) (length l.counts) l.fn.self
