use Rattle.std.proofs.Common.{ap}
use Rattle.run_model.specs.States.{body_sets}
use Rattle.causal_store.proofs.TouchedAtoms.{not_tagged}
use Rattle.causal_store.proofs.tags.tag_item.Goals as goal

pub returns-in-Out : goal.returns-in-Out
returns-in-Out c = not_tagged c.args.spec.now c.args.item.now c.args.tags.now (λ atom. ap (body_sets c.args.spec.now atom.pred atom.args) c.in-Out.is)

pub returns-in-Accept : goal.returns-in-Accept
returns-in-Accept c = not_tagged c.args.spec.now c.args.item.now c.args.tags.now (λ atom. ap (body_sets c.args.spec.now atom.pred atom.args) c.in-Accept.is)
