use Rattle.std.proofs.Common.{◌<◌, List, length, take, arith}
use Rattle.std.specs.List.{list_any}
use Rattle.spec_model.specs.declared.right.Need.{Need}
use Rattle.spec_model.specs.declared.right.Right.{Right}
use Rattle.run_model.specs.Fitting.{NeedFits}
use Rattle.rights_table.specs.Touched.{need_touches}
use Rattle.rights_table.proofs.Levels.{rest_of}
use Rattle.rights_table.proofs.Making.{room_more, room_stops}
use Rattle.rights_table.proofs.table.Table.ready_needs.Goals as goal

pub loop-need-preserved : goal.loop-need-preserved
loop-need-preserved c =
    let needs : List Need = c.args.needs.now in
    let k = c.loop-need.need-index in
    let lt : k < length needs = omega (arith, c.loop-need-test.true) in
    record {
      room = room_more c.args.setup.now (λ (r : Right) (n : Need). need_touches r n) needs k c.need-item.result c.args.self.now c.loop-need.self c.ready_need.new.self lt c.need-item.is c.loop-need.invariant.room c.in_ok-ready_need.ensures;
      fits = rest_of (NeedFits c.args.setup.now) needs k lt c.loop-need.invariant.fits;
    }

pub returns-in_err-ready_need : goal.returns-in_err-ready_need
returns-in_err-ready_need c =
    let all : List Need = c.args.needs.now in
    room_stops c.args.setup.now (λ (r : Right). list_any (λ (x : Need). need_touches r x) (take c.loop-need.need-index all)) (λ (r : Right). (λ (x : Need). need_touches r x) c.need-item.result) (λ (r : Right). list_any (λ (x : Need). need_touches r x) all)
    c.args.self.now c.loop-need.self c.ready_need.new.self c.from_residual.result c.from_residual.ensures.0 c.loop-need.invariant.room c.in_err-ready_need.ensures
