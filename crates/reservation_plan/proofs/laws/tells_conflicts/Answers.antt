use Rattle.reservation_plan.proofs.Telling.{tells_conflicts}
use Rattle.reservation_plan.proofs.laws.tells_conflicts.Goals as goal

pub returns : goal.returns
returns c = tells_conflicts
