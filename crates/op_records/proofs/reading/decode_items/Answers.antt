use Rattle.std.proofs.Common.{arith}
use Rattle.op_records.proofs.Batches.{found, nothing}
use Rattle.op_records.proofs.Choices.{map_ok}
use Rattle.op_records.proofs.reading.decode_items.Goals as goal

pub returns-clause-some : goal.returns-clause-some
returns-clause-some c = map_ok c.read_all.result (λ read is. found c.args.bytes.now read (record { each = λ i. omega (arith, c.type_inv.bytes i) }) is) c.read_all.ensures

pub returns-clause-none : goal.returns-clause-none
returns-clause-none c = map_ok c.read_all.result (λ read is. nothing c.args.bytes.now read is) c.read_all.ensures
