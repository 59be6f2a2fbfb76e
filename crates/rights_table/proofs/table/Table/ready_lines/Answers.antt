use Rattle.std.proofs.Common.{◌<◌, ◌≤◌, List, length, take, arith}
use Rattle.std.specs.List.{list_any}
use Rattle.spec_model.specs.declared.operation.Line.{Line}
use Rattle.spec_model.specs.declared.right.Right.{Right}
use Rattle.rights_table.specs.Cells.{line_moves}
use Rattle.rights_table.proofs.Making.{room_all, room_more, room_stops}
use Rattle.rights_table.proofs.table.Table.ready_lines.Goals as goal

pub returns-in_err-ready_line : goal.returns-in_err-ready_line
returns-in_err-ready_line c =
    let spec = c.args.setup.now.spec in
    let lines : List Line = c.args.lines.now in
    room_stops c.args.setup.now (λ (r : Right). list_any (line_moves spec c.args.inst.now r) (take c.loop-line.line-index lines)) (λ (r : Right). line_moves spec c.args.inst.now r c.line-item.result) (λ (r : Right). list_any (line_moves spec c.args.inst.now r) lines)
    c.args.self.now c.loop-line.self c.ready_line.new.self c.from_residual.result c.from_residual.ensures.0 c.loop-line.invariant c.in_err-ready_line.ensures

pub loop-line-preserved : goal.loop-line-preserved
loop-line-preserved c =
    let lines : List Line = c.args.lines.now in
    let k = c.loop-line.line-index in
    let lt : k < length lines = omega (arith, c.loop-line-test.true) in
    room_more c.args.setup.now (λ (r : Right) (l : Line). line_moves c.args.setup.now.spec c.args.inst.now r l) lines k c.line-item.result c.args.self.now c.loop-line.self c.ready_line.new.self lt c.line-item.is c.loop-line.invariant c.in_ok-ready_line.ensures

pub returns : goal.returns
returns c =
    let lines : List Line = c.args.lines.now in
    let k = c.loop-line.line-index in
    let all : length lines ≤ k = omega (arith, c.loop-line-test.false) in
    room_all c.args.setup.now (λ (r : Right) (l : Line). line_moves c.args.setup.now.spec c.args.inst.now r l) lines k c.args.self.now c.loop-line.self all c.loop-line.invariant
