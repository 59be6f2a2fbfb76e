use Rattle.spec_model.specs.Truths.{size_of}
use Rattle.effect_model.proofs.Fitted.{short_elements}
use Rattle.effect_model.proofs.fitting.are_elements.Goals as goal

pub returns-in_default : goal.returns-in_default
returns-in_default c = (
  λ wrong. absurd cc,
  λ fits. absurd (short_elements (size_of c.args.spec.now) c.loop-sort.left.now c.args.sorts.now c.loop-sort.sort-index c.loop-sort-test.true c.in_default.len_below (c.loop-sort.invariant.1 fits)),
)
