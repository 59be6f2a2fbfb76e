use Rattle.std.proofs.Common.{ℕ, ◌≤◌, length, List, sym, subst, arith}
use Rattle.op_records.proofs.Choices.{map_ok}
use Rattle.op_records.proofs.Lengths.{batch_short}
use Rattle.rights_journal.proofs.batches.encode_batch.Goals as goal

pub returns-clause-short : goal.returns-clause-short
returns-clause-short c =
    map_ok c.encode_items.result (λ bytes is. subst (λ (l : List ℕ). length l ≤ 6995) (sym is) (omega (arith, batch_short c.args.replicas c.args.batch.now.items c.requires))) c.encode_items.ensures
