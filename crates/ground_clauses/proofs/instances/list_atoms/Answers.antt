use Rattle.ground_clauses.proofs.Once.{all_once}
use Rattle.ground_clauses.proofs.instances.list_atoms.Goals as goal

pub returns : goal.returns
returns c = all_once c.args.instances.now c.loop-instance.instance-index c.loop-instance.once c.loop-instance-test.false c.loop-instance.invariant
