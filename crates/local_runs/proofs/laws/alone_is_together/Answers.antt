use Rattle.run_model.proofs.Here.{local_step_is_one}
use Rattle.message_laws.proofs.Messages.{messages_heeded}
use Rattle.message_laws.proofs.NeedsFit.{needs_fit}
use Rattle.local_runs.proofs.Together.{alone_together}
use Rattle.local_runs.proofs.laws.alone_is_together.Goals as goal

pub returns : goal.returns
returns c = alone_together local_step_is_one (messages_heeded needs_fit)
