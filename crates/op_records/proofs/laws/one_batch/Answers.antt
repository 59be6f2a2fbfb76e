use Rattle.op_records.proofs.Batches.{spells_one}
use Rattle.op_records.proofs.laws.one_batch.Goals as goal

pub returns : goal.returns
returns c = λ bytes xs ys a b. spells_one bytes xs ys a b
