use Rattle.std.proofs.Common.{◌∙◌}
use Rattle.effect_model.proofs.Terms.{short_front}
use Rattle.effect_model.proofs.touching.elements_begin.Goals as goal

pub returns-in_default : goal.returns-in_default
returns-in_default c =
    short_front c.args.inst.now.args c.loop-y.left.now c.args.front.now c.loop-y.y-index c.loop-y-test.true c.in_default.len_below ∙ c.loop-y.invariant
