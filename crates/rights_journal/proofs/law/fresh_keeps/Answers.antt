use Rattle.rights_journal.proofs.Starts.{fresh_stands}
use Rattle.rights_journal.proofs.law.fresh_keeps.Goals as goal

pub returns : goal.returns
returns c = λ replicas batches bytes left un stands fresh. fresh_stands replicas batches bytes left un stands fresh
