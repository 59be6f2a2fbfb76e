use Rattle.std.proofs.Common.{◌<◌, List, length, take, arith}
use Rattle.std.specs.List.{list_any}
use Rattle.spec_model.specs.declared.log.LogItem.{LogItem}
use Rattle.spec_model.specs.declared.right.Right.{Right}
use Rattle.run_model.specs.Fitting.{BodyFits}
use Rattle.rights_table.specs.Touched.{item_touches}
use Rattle.rights_table.proofs.Levels.{rest_of}
use Rattle.rights_table.proofs.Making.{room_more, room_stops}
use Rattle.rights_table.proofs.table.Table.ready_items.Goals as goal

pub loop-item-preserved : goal.loop-item-preserved
loop-item-preserved c =
    let items : List LogItem = c.args.items.now in
    let k = c.loop-item.item-index in
    let lt : k < length items = omega (arith, c.loop-item-test.true) in
    record {
      room = room_more c.args.setup.now (λ (r : Right) (i : LogItem). item_touches c.args.setup.now.spec c.args.self.now.me r i) items k c.item-item.result c.args.self.now c.loop-item.self c.ready_item.new.self lt c.item-item.is c.loop-item.invariant.room c.in_ok-ready_item.ensures;
      fits = rest_of (λ (i : LogItem). BodyFits c.args.setup.now i.body) items k lt c.loop-item.invariant.fits;
    }

pub returns-in_err-ready_item : goal.returns-in_err-ready_item
returns-in_err-ready_item c =
    let all : List LogItem = c.args.items.now in
    room_stops c.args.setup.now (λ (r : Right). list_any (λ (x : LogItem). item_touches c.args.setup.now.spec c.args.self.now.me r x) (take c.loop-item.item-index all)) (λ (r : Right). (λ (x : LogItem). item_touches c.args.setup.now.spec c.args.self.now.me r x) c.item-item.result) (λ (r : Right). list_any (λ (x : LogItem). item_touches c.args.setup.now.spec c.args.self.now.me r x) all)
    c.args.self.now c.loop-item.self c.ready_item.new.self c.from_residual.result c.from_residual.ensures.0 c.loop-item.invariant.room c.in_err-ready_item.ensures
