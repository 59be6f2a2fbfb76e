use Rattle.replica_node.proofs.Closed.{closed_one_run}
use Rattle.replica_node.proofs.laws.closed_is_one_run.Goals as goal

pub returns : goal.returns
returns c = closed_one_run c.alone_is_together.ensures
