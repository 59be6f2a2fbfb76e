use Rattle.certificate_check.proofs.Unseparated.{checked_is_stable}
use Rattle.certificate_check.proofs.laws.checked_is_stable.Goals as goal

pub returns : goal.returns
returns c = checked_is_stable
