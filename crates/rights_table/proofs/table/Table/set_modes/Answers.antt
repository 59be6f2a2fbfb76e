use Rattle.std.proofs.Common.{Bool, sym, ◌∙◌}
use Rattle.spec_model.specs.declared.plan.Setup.{Setup}
use Rattle.spec_model.specs.declared.right.Right.{Right}
use Rattle.spec_model.specs.declared.right.Level.TheVariants as level
use Rattle.run_model.specs.Levels.{acts_at}
use Rattle.rights_table.specs.Acting.{shares_in}
use Rattle.rights_table.proofs.Levels.{acts_still, sets_modes}
use Rattle.rights_table.proofs.table.Table.set_modes.Goals as goal

pub act_at_level-requires-clause-entered : goal.act_at_level-requires-clause-entered
act_at_level-requires-clause-entered c = λ q h. c.requires.entered q level.Allow h

pub act_at_level-requires-2-clause-entered : goal.act_at_level-requires-2-clause-entered
act_at_level-requires-2-clause-entered c = λ q h.
    let setup : Setup = c.args.setup.now in
    let acts : Right → Bool = λ r. acts_at setup.replicas (shares_in setup c.args.self.now) c.args.needs.now r level.Allow in
    c.act_at_level.ensures.kept q (c.requires.entered q level.Forbid (sym (acts_still setup level.Allow level.Forbid acts c.args.self.now c.act_at_level.new.self c.args.needs.now q c.act_at_level.ensures) ∙ h))

pub returns : goal.returns
returns c = sets_modes c.args.setup.now c.args.needs.now c.args.self.now c.act_at_level.new.self c.act_at_level-2.new.self c.act_at_level.ensures c.act_at_level-2.ensures
