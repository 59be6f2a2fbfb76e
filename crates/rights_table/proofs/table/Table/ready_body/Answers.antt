use Rattle.std.specs.Prelude.{is_ok}
use Rattle.std.specs.List.{list_any}
use Rattle.spec_model.specs.declared.right.Right.{Right}
use Rattle.rights_table.specs.Cells.{line_moves}
use Rattle.rights_table.specs.Touched.{body_touches}
use Rattle.rights_table.proofs.Making.{room_like, act_touches}
use Rattle.rights_table.proofs.table.Table.ready_body.Goals as goal

pub returns-then-mine : goal.returns-then-mine
returns-then-mine c =
    let spec = c.args.setup.now.spec in
    room_like c.args.setup.now (is_ok c.ready_lines.result) (λ (r : Right). list_any (line_moves spec c.in-Act.inst r) c.lines_of.result.now) (body_touches spec c.args.mine c.args.body.now) c.args.self.now c.ready_lines.new.self
    (act_touches spec c.args.mine c.in-Act.inst c.args.body.now c.lines_of.result.now c.if-mine.true c.in-Act.is c.lines_of.ensures) c.ready_lines.ensures
