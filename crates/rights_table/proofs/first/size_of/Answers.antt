use Rattle.effect_model.proofs.Sizes.{size_none}
use Rattle.rights_table.proofs.first.size_of.Goals as goal

pub returns-in-None : goal.returns-in-None
returns-in-None c = size_none c.args.spec.now c.args.sort c.in-None.ensures.value
