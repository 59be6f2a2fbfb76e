use Rattle.std.specs.Prelude.{is_ok, ◌&&◌}
use Rattle.spec_model.specs.declared.right.Right.{Right}
use Rattle.spec_model.specs.declared.right.Right.TheVariants as right_of
use Rattle.run_model.specs.Rights.{same_right}
use Rattle.rights_table.specs.Bounded as bounded
use Rattle.rights_table.specs.Touched.{cell_touches}
use Rattle.rights_table.proofs.Making.{room_both, cell_parts}
use Rattle.rights_table.proofs.table.Table.ready_cell.Goals as goal

pub returns : goal.returns
returns c =
    let spec = c.args.setup.now.spec in
    let cell = c.args.cell.now in
    room_both c.args.setup.now (is_ok c.ready_high.result) (λ (r : Right). bounded.has_lower spec cell.num && same_right (right_of.Low cell) r) (λ (r : Right). bounded.has_upper spec cell.num && same_right (right_of.High cell) r) (cell_touches spec cell)
    c.args.self.now c.ready_low.new.self c.ready_high.new.self c.in_ok-ready_low.ensures c.ready_high.ensures (λ done r it. cell_parts spec cell r it)
