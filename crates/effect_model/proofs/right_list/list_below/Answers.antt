use Rattle.std.proofs.Common.{◌≡◌, ◌++◌, subst}
use Rattle.std.specs.Prelude.{OnOk}
use Rattle.effect_model.proofs.Ranging.{range_walked}
use Rattle.effect_model.proofs.right_list.list_below.Goals as goal

pub returns : goal.returns
returns c = subst (λ rs. OnOk c.walk.result (c.walk.new.out ≡ c.args.out.now ++ rs))
    (range_walked c.args.ranging.now.family c.args.ranging.now.of c.args.any c.args.sizes.now c.as_slice.result.now c.new.result c.if-not-any.false c.as_slice.ensures.value c.new.ensures) c.walk.ensures
