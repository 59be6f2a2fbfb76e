use Rattle.std.proofs.Common.{sym, ap, ◌∙◌}
use Rattle.std.specs.Option.{option_copied}
use Rattle.spec_model.specs.declared.operation.Op.{Op}
use Rattle.spec_model.specs.Truths.{no_op}
use Rattle.effect_model.proofs.Acts.{none_there}
use Rattle.rights_table.proofs.first.params_of.Goals as goal

pub returns-in-None : goal.returns-in-None
returns-in-None c = sym (ap (λ (op : Op). op.params) (none_there c.args.spec.now.ops c.args.op no_op (sym c.get.ensures.value ∙ ap option_copied c.in-None.is)))
