use Rattle.std.proofs.Common.{◌≡◌, ◌-◌, ◌+◌, length, List, Some, subst, rules}
use Rattle.spec_model.specs.declared.log.LogItem.{LogItem}
use Rattle.op_records.specs.Reading.{item_at, many_at}
use Rattle.op_records.proofs.Loop.{with_front, goes_on, take_step}
use Rattle.std.specs.Prelude.{take}
use Rattle.op_records.proofs.reading.reads_items.Goals as goal

pub loop-item-preserved : goal.loop-item-preserved
loop-item-preserved c =
    let items : List LogItem = c.args.items.now in
    let k = c.loop-item.item-index in
    let x : LogItem = c.item-item.result in
    let after = c.has_item.new.self in
    let total = many_at (item_at c.args.replicas) (length items) c.args.cursor.now in
    let read : item_at c.args.replicas c.loop-item.cursor ≡ Some (x, after) = search rules in
    subst (λ (front : List LogItem). with_front front (many_at (item_at c.args.replicas) (length items - (k + 1)) after) ≡ total) (take_step items k x c.loop-item-test.true c.item-item.is)
    (goes_on (item_at c.args.replicas) (take k items) (length items) k c.loop-item.cursor x after total c.loop-item-test.true read c.loop-item.invariant)
