use Rattle.std.proofs.Common.{◌≡◌, ◌-◌}
use Rattle.op_records.specs.Reading.{item_at, many_at}
use Rattle.op_records.proofs.Loop.{with_front}
use Rattle.op_records.proofs.reading.items_of.Given as goal

abbrev pub invariant-loop : goal.invariant-loop
invariant-loop l = with_front l.items.items (many_at (item_at l.replicas) (l.count - l.counter) l.cursor) ≡ many_at (item_at l.replicas) l.count l.fn.cursor
