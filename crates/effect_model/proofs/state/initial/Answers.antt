use Rattle.effect_model.proofs.Filled.{first_state}
use Rattle.effect_model.proofs.state.initial.Goals as goal

pub returns : goal.returns
returns c = first_state c.args.spec.now c.in_ok-places.places c.in_ok-truths.truths c.in_ok-values.values c.in_ok-places.ensures c.in_ok-truths.ensures c.in_ok-values.ensures
