use Rattle.std.proofs.Common.{◌≡◌, List, Some, subst, arith}
use Rattle.spec_model.specs.declared.log.LogItem.{LogItem}
use Rattle.op_records.specs.Reading.{batch_at}
use Rattle.op_records.proofs.Batches.{batch_takes}
use Rattle.op_records.proofs.reading.is_spelled.Goals as goal

pub returns : goal.returns
returns c = λ yes.
    batch_takes c.args.bytes.now c.args.batch.now.items (record { each = λ i. omega (arith, c.type_inv.bytes i) })
    (subst (λ (l : List LogItem). batch_at c.args.bytes.now ≡ Some l) c.as_slice.ensures.value (c.reads_all.ensures yes))
