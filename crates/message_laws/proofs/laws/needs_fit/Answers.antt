use Rattle.message_laws.proofs.NeedsFit.{needs_fit}
use Rattle.message_laws.proofs.laws.needs_fit.Goals as goal

pub returns : goal.returns
returns c = needs_fit
