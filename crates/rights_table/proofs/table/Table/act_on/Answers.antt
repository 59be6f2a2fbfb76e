use Rattle.std.proofs.Common.{sym, ◌∙◌}
use Rattle.run_model.specs.Levels.{acts_on}
use Rattle.rights_table.specs.Acting.{shares_in}
use Rattle.rights_table.specs.Same.{same_refl}
use Rattle.rights_table.proofs.Levels.{acts_none}
use Rattle.rights_table.proofs.table.Table.act_on.Goals as goal

pub act_at-requires-clause-entered : goal.act_at-requires-clause-entered
act_at-requires-clause-entered c = c.requires.entered c.in-Some.right (sym (c.in-Some.ensures.it c.in-Some.right) ∙ same_refl c.in-Some.right)

pub returns-in-None : goal.returns-in-None
returns-in-None c =
    acts_none c.args.setup.now c.args.level (λ q. acts_on c.args.setup.now.replicas (shares_in c.args.setup.now c.args.self.now) q c.args.level c.args.need.now) c.args.self.now (λ q. sym (c.in-None.ensures.it q))
