use Rattle.std.specs.Prelude.{is_ok}
use Rattle.spec_model.specs.declared.right.Right.{Right}
use Rattle.rights_table.specs.Cells.{line_moves}
use Rattle.rights_table.specs.Touched.{cell_touches}
use Rattle.rights_table.proofs.Making.{room_like, add_touches, sub_touches}
use Rattle.rights_table.proofs.table.Table.ready_line.Goals as goal

pub returns-in-Add : goal.returns-in-Add
returns-in-Add c =
    let spec = c.args.setup.now.spec in
    room_like c.args.setup.now (is_ok c.ready_cell.result) (cell_touches spec c.cell_named.result) (λ (r : Right). line_moves spec c.args.inst.now r c.args.line.now) c.args.self.now c.ready_cell.new.self
    (add_touches spec c.args.inst.now c.args.line.now c.in-Add.num c.in-Add.params c.in-Add.amount c.cell_named.result c.in-Add.is c.cell_named.ensures) c.ready_cell.ensures

pub returns-in-Sub : goal.returns-in-Sub
returns-in-Sub c =
    let spec = c.args.setup.now.spec in
    room_like c.args.setup.now (is_ok c.ready_cell-in-Sub.result) (cell_touches spec c.cell_named-in-Sub.result) (λ (r : Right). line_moves spec c.args.inst.now r c.args.line.now) c.args.self.now c.ready_cell-in-Sub.new.self
    (sub_touches spec c.args.inst.now c.args.line.now c.in-Sub.num c.in-Sub.params c.in-Sub.amount c.cell_named-in-Sub.result c.in-Sub.is c.cell_named-in-Sub.ensures) c.ready_cell-in-Sub.ensures
