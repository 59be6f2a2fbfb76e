use Rattle.replica_core.proofs.Replayed.{commits_more}
use Rattle.replica_core.proofs.laws.commits_more.Goals as goal

pub returns : goal.returns
returns c = commits_more
