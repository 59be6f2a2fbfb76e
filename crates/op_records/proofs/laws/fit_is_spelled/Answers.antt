use Rattle.op_records.proofs.Logged.{fit_spelled}
use Rattle.op_records.proofs.laws.fit_is_spelled.Goals as goal

pub returns : goal.returns
returns c = fit_spelled
