use Rattle.std.proofs.Common.{◌≡◌, ◌-◌, length}
use Rattle.op_records.specs.Reading.{number_at, many_at}
use Rattle.op_records.proofs.Loop.{with_front}
use Rattle.op_records.proofs.cursor.Cursor.args_of.Given as goal

abbrev pub invariant-loop : goal.invariant-loop
invariant-loop l = (with_front l.args (many_at (number_at 2) (l.count - l.counter) l.self) ≡ many_at (number_at 2) l.count l.fn.self) × (length l.args ≡ l.counter)
