use Rattle.op_records.proofs.Lengths.{batch_short}
use Rattle.op_records.proofs.laws.batches_are_short.Goals as goal

pub returns : goal.returns
returns c = λ replicas items fine. batch_short replicas items fine
