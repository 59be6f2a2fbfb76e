use Rattle.effect_model.proofs.Plainly.{plain_fixed}
use Rattle.effect_model.proofs.laws.plain_needs_are_fixed.Goals as goal

pub returns : goal.returns
returns c = plain_fixed
