use Rattle.spec_language.proofs.SaidAgain.{read_said}
use Rattle.spec_language.proofs.law.said_again.Goals as goal

pub returns : goal.returns
returns c = λ texts d is. (read_said texts d is).said
