use Rattle.message_laws.proofs.Messages.{messages_heeded}
use Rattle.message_laws.proofs.NeedsFit.{needs_fit}
use Rattle.message_laws.proofs.laws.messages_are_heeded.Goals as goal

pub returns : goal.returns
returns c = messages_heeded needs_fit
