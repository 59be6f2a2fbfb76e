use Rattle.effect_model.proofs.Sums.{changes_small}
use Rattle.effect_model.proofs.laws.changes_are_small.Goals as goal

pub returns : goal.returns
returns c = changes_small
