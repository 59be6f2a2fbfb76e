use Rattle.partition_locks.proofs.Counts.{held_is_whole}
use Rattle.partition_locks.proofs.laws.held_is_whole.Goals as goal

pub returns : goal.returns
returns c = held_is_whole
