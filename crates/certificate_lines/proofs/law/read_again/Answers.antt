use Rattle.certificate_lines.proofs.Again.{line_again}
use Rattle.certificate_lines.proofs.law.read_again.Goals as goal

pub returns : goal.returns
returns c = line_again
