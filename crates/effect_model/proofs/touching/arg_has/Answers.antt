use Rattle.effect_model.proofs.Terms.{none_has}
use Rattle.effect_model.proofs.touching.arg_has.Goals as goal

pub returns-in-None : goal.returns-in-None
returns-in-None c = none_has c.args.inst.now.args c.args.place c.args.x c.in-None.ensures
