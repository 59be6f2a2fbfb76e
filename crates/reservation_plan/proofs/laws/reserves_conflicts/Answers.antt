use Rattle.reservation_plan.proofs.Exact.{reserves_conflicts}
use Rattle.reservation_plan.proofs.laws.reserves_conflicts.Goals as goal

pub returns : goal.returns
returns c = reserves_conflicts
