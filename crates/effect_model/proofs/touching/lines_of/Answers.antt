use Rattle.std.proofs.Common.{sym, ap, ◌∙◌}
use Rattle.std.specs.Option.{option_copied}
use Rattle.effect_model.proofs.Acts.{no_lines}
use Rattle.effect_model.proofs.touching.lines_of.Goals as goal

pub returns-in-None : goal.returns-in-None
returns-in-None c = no_lines c.args.spec.now.ops c.args.inst.now.op (sym c.get.ensures.value ∙ ap option_copied c.in-None.is)
