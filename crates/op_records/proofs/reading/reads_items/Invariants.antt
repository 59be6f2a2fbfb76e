use Rattle.std.proofs.Common.{◌≡◌, ◌-◌, length, take}
use Rattle.op_records.specs.Reading.{item_at, many_at}
use Rattle.op_records.proofs.Loop.{with_front}
use Rattle.op_records.proofs.reading.reads_items.Given as goal

abbrev pub invariant-loop-item : goal.invariant-loop-item
invariant-loop-item l = with_front (take l.item-index l.items) (many_at (item_at l.replicas) (length l.items - l.item-index) l.cursor) ≡ many_at (item_at l.replicas) (length l.items) l.fn.cursor
