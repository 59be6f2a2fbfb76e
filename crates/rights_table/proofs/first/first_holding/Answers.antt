use Rattle.std.proofs.Common.{ap, ◌∙◌}
use Rattle.run_model.specs.Rights.{even_share}
use Rattle.rights_table.proofs.Untouched.{low_first, high_first}
use Rattle.rights_table.proofs.first.first_holding.Goals as goal

pub returns-in-Low : goal.returns-in-Low
returns-in-Low c = low_first c.args.setup.now c.args.me c.args.right.now c.in-Low.cell c.first_counted.result c.in-Low.is c.first_counted.ensures.kind (c.first_counted.ensures.count ∙ ap (λ n. even_share n c.args.setup.now.replicas c.args.me) c.first_low.ensures.value)

pub returns-in-High : goal.returns-in-High
returns-in-High c = high_first c.args.setup.now c.args.me c.args.right.now c.in-High.cell c.first_counted-in-High.result c.in-High.is c.first_counted-in-High.ensures.kind (c.first_counted-in-High.ensures.count ∙ ap (λ n. even_share n c.args.setup.now.replicas c.args.me) c.first_high.ensures.value)
