use Rattle.replica_course.proofs.Spelled.{decided_is_spelled}
use Rattle.replica_course.proofs.laws.decided_is_spelled.Goals as goal

pub returns : goal.returns
returns c = decided_is_spelled
