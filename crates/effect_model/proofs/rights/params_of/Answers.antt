use Rattle.std.proofs.Common.{sym, ap, ◌∙◌}
use Rattle.std.specs.Option.{option_copied}
use Rattle.effect_model.proofs.Keyed.{no_params}
use Rattle.effect_model.proofs.rights.params_of.Goals as goal

pub returns-in-None : goal.returns-in-None
returns-in-None c = no_params c.args.spec.now.ops c.args.op (sym c.get.ensures.value ∙ ap option_copied c.in-None.is)
