use Rattle.std.proofs.Common.{ap}
use Rattle.spec_model.specs.declared.instance.Cell.{Cell}
use Rattle.run_model.specs.States.{body_lowers, body_raises}
use Rattle.causal_store.proofs.TouchedCells.{not_summed}
use Rattle.causal_store.proofs.sums.sum_item.Goals as goal

pub returns-in-Out : goal.returns-in-Out
returns-in-Out c = not_summed c.args.spec.now (λ (cell : Cell). body_raises c.args.spec.now cell c.args.item.now.body) (λ (cell : Cell). body_lowers c.args.spec.now cell c.args.item.now.body) c.args.sums.now
    (λ cell. ap (body_raises c.args.spec.now cell) c.in-Out.is) (λ cell. ap (body_lowers c.args.spec.now cell) c.in-Out.is)

pub returns-in-Accept : goal.returns-in-Accept
returns-in-Accept c = not_summed c.args.spec.now (λ (cell : Cell). body_raises c.args.spec.now cell c.args.item.now.body) (λ (cell : Cell). body_lowers c.args.spec.now cell c.args.item.now.body) c.args.sums.now
    (λ cell. ap (body_raises c.args.spec.now cell) c.in-Accept.is) (λ cell. ap (body_lowers c.args.spec.now cell) c.in-Accept.is)
