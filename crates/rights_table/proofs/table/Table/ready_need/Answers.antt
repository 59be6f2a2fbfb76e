use Rattle.spec_model.specs.declared.right.Right.{Right}
use Rattle.std.specs.Prelude.{is_ok}
use Rattle.std.specs.List.{list_any}
use Rattle.rights_table.specs.Touched.{literal_touches, need_touches}
use Rattle.rights_table.proofs.Making.{room_like, forbid_touches}
use Rattle.rights_table.proofs.table.Table.ready_need.Goals as goal

pub returns-in-AnyForbid : goal.returns-in-AnyForbid
returns-in-AnyForbid c =
    let need = c.args.need.now in
    room_like c.args.setup.now (is_ok c.ready_literals.result) (λ (r : Right). list_any (literal_touches need.right r) c.as_slice.result.now) (λ (r : Right). need_touches r need) c.args.self.now c.ready_literals.new.self
    (λ r. forbid_touches need c.in-AnyForbid.literals c.as_slice.result.now r c.in-AnyForbid.is c.as_slice.ensures.value) c.ready_literals.ensures
