use Rattle.std.proofs.Common.{◌≡◌, ◌∙◌, List, sym, ap, subst}
use Rattle.run_model.specs.declared.step.StepEntry.{StepEntry}
use Rattle.run_model.specs.Runs.{InOrder}
use Rattle.run_trace.specs.Merging.{AreApart, Merges}
use Rattle.run_trace.proofs.Gathered.{in_order_at, apart_at, merged_at}
use Rattle.run_trace.proofs.Joined.{those}
use Rattle.run_trace.proofs.order.in_order.Goals as goal

pub merge_two-requires-clause-b_in_order : goal.merge_two-requires-clause-b_in_order
merge_two-requires-clause-b_in_order c =
    let own : those c.as_slice-in-loop-history-2.result.now ≡ c.history-item.result.entries = ap those c.as_slice-in-loop-history-2.ensures.value ∙ c.in_ok-own.ensures ∙ c.as_slice.ensures.value in
    subst InOrder (sym own) (in_order_at c.args.histories.now c.loop-history.history-index _ c.requires c.loop-history-test.true c.history-item.is)

pub merge_two-requires-clause-apart : goal.merge_two-requires-clause-apart
merge_two-requires-clause-apart c =
    let own : those c.as_slice-in-loop-history-2.result.now ≡ c.history-item.result.entries = ap those c.as_slice-in-loop-history-2.ensures.value ∙ c.in_ok-own.ensures ∙ c.as_slice.ensures.value in
    let before : those c.as_slice-in-loop-history.result.now ≡ those c.loop-history.entries.items = ap those c.as_slice-in-loop-history.ensures.value in
    subst (λ (es : List StepEntry). AreApart es (those c.as_slice-in-loop-history-2.result.now)) (sym before)
    (subst (AreApart (those c.loop-history.entries.items)) (sym own) (apart_at c.args.histories.now c.loop-history.history-index _ _ c.requires c.loop-history-test.true c.history-item.is c.loop-history.invariant))

pub loop-history-preserved : goal.loop-history-preserved
loop-history-preserved c =
    let own : those c.as_slice-in-loop-history-2.result.now ≡ c.history-item.result.entries = ap those c.as_slice-in-loop-history-2.ensures.value ∙ c.in_ok-own.ensures ∙ c.as_slice.ensures.value in
    let before : those c.as_slice-in-loop-history.result.now ≡ those c.loop-history.entries.items = ap those c.as_slice-in-loop-history.ensures.value in
    let merged : Merges (those c.loop-history.entries.items) c.history-item.result.entries (those c.in_ok-entries.entries.items) =
    subst (λ (es : List StepEntry). Merges es c.history-item.result.entries (those c.in_ok-entries.entries.items)) before (subst (λ (es : List StepEntry). Merges (those c.as_slice-in-loop-history.result.now) es (those c.in_ok-entries.entries.items)) own c.in_ok-entries.ensures.merged) in
    merged_at c.args.histories.now c.loop-history.history-index c.history-item.result (those c.loop-history.entries.items) (those c.in_ok-entries.entries.items) c.requires c.loop-history-test.true c.history-item.is c.loop-history.invariant merged c.in_ok-entries.ensures.in_order
