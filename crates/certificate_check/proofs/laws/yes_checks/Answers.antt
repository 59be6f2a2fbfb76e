use Rattle.certificate_check.proofs.Verdicts.{yes_checks}
use Rattle.certificate_check.proofs.laws.yes_checks.Goals as goal

pub returns : goal.returns
returns c = yes_checks
