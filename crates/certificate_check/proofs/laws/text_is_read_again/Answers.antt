use Rattle.certificate_check.proofs.ReadAgain.{text_again}
use Rattle.certificate_check.proofs.laws.text_is_read_again.Goals as goal

pub returns : goal.returns
returns c = text_again
