use Rattle.std.proofs.Common.{sym, ap, ◌∙◌}
use Rattle.std.specs.Option.{option_copied}
use Rattle.spec_model.specs.declared.plan.LockKind.{LockKind}
use Rattle.run_model.specs.Points.{no_kind}
use Rattle.effect_model.proofs.Acts.{none_there}
use Rattle.rights_table.proofs.first.op_of.Goals as goal

pub returns-in-None : goal.returns-in-None
returns-in-None c = sym (ap (λ (kind : LockKind). kind.a) (none_there c.args.setup.now.plan.parts c.args.part no_kind (sym c.get.ensures.value ∙ ap option_copied c.in-None.is)))
