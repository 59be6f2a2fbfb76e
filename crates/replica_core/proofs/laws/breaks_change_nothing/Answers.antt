use Rattle.replica_core.proofs.Needed.{answered_breaks}
use Rattle.replica_core.proofs.laws.breaks_change_nothing.Goals as goal

pub returns : goal.returns
returns c = answered_breaks
