use Rattle.std.proofs.Common.{◌≡◌, ◌↔◌, drop}
use Rattle.batch_storage.proofs.same.same_batches.Given as goal

abbrev pub invariant-loop-batch : goal.invariant-loop-batch
invariant-loop-batch l = (drop l.batch-index l.a ≡ l.left) ↔ (l.a ≡ l.b)
