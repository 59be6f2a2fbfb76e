use Rattle.effect_model.proofs.Fitted.{short_elements}
use Rattle.effect_model.proofs.rights.are_below.Goals as goal

pub returns-in_default : goal.returns-in_default
returns-in_default c = (
  λ wrong. absurd cc,
  λ fits. absurd (short_elements (λ s. s) c.loop-size.left.now c.args.sizes.now c.loop-size.size-index c.loop-size-test.true c.in_default.len_below (c.loop-size.invariant.1 fits)),
)
