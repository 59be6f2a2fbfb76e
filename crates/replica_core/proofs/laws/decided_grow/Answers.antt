use Rattle.replica_core.proofs.Growing.{decided_grow}
use Rattle.replica_core.proofs.laws.decided_grow.Goals as goal

pub returns : goal.returns
returns c = decided_grow
