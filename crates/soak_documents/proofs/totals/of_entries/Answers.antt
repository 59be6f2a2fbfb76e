use Rattle.std.proofs.Common.{sym, ◌∙◌, arith}
use Rattle.soak_documents.proofs.Sums.{entry_at, none_small, none_total, plus_small, still_small}
use Rattle.soak_documents.proofs.totals.of_entries.Goals as goal

pub loop-entry-init : goal.loop-entry-init
loop-entry-init c = (c.none-sum.ensures ∙ sym none_total, rw c.none-sum.ensures none_small)

pub plus-sum-requires-clause-a : goal.plus-sum-requires-clause-a
plus-sum-requires-clause-a c = still_small c.loop-entry.sum _ _ c.loop-entry.invariant.1 (omega (arith, c.loop-entry-test.true, c.requires))

pub plus-sum-requires-clause-b : goal.plus-sum-requires-clause-b
plus-sum-requires-clause-b c = still_small c.of_outcome.result _ _ c.of_outcome.ensures.small (omega arith)

pub loop-entry-preserved : goal.loop-entry-preserved
loop-entry-preserved c = (
  entry_at c.args.entries.now c.loop-entry.entry-index c.entry-item.result c.loop-entry.sum c.of_outcome.result c.plus-sum.result c.loop-entry-test.true c.entry-item.is c.loop-entry.invariant.0 c.of_outcome.ensures.value c.plus-sum.ensures,
  rw c.plus-sum.ensures (plus_small c.loop-entry.sum c.of_outcome.result _ _ _ c.loop-entry.invariant.1 c.of_outcome.ensures.small (omega arith)),
)
