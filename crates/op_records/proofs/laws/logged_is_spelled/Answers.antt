use Rattle.op_records.proofs.Logged.{logged_spelled}
use Rattle.op_records.proofs.laws.logged_is_spelled.Goals as goal

pub returns : goal.returns
returns c = logged_spelled
