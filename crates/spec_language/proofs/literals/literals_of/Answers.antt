use Rattle.spec_language.proofs.Fitting.{few_first}
use Rattle.spec_language.proofs.literals.literals_of.Goals as goal

pub literal_of-requires-clause-few : goal.literal_of-requires-clause-few
literal_of-requires-clause-few c = few_first c.args.preds.now c.args.vars.now c.args.literals.now c.loop-x.x-index c.x-item.result c.loop-x-test.true c.x-item.is c.loop-x.invariant.1
