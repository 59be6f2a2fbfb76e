use Rattle.std.proofs.Common.{ap, sym, ◌∙◌, arith, List}
use Rattle.std.specs.Prelude.{sum_by}
use Rattle.std.proofs.lemmas.List.{take_all}
use Rattle.std.proofs.lemmas.List.Sums.{sum_by_more_le}
use Rattle.ind_base.specs.declared.span.Span.{Span}
use Rattle.run_model.specs.Points.{points_of}
use Rattle.partition_locks.specs.Held.{lies_in}
use Rattle.partition_locks.proofs.Counts.{shared, count_is, count_small, size_is}
use Rattle.partition_locks.proofs.runs.count_in.Goals as goal

pub overflow_add-have : goal.overflow_add-have
overflow_add-have c =
    let runs = c.args.runs.now in
    let span : Span = c.args.span.now in
    let k = c.loop-run.run-index in
    let more = sum_by_more_le (shared span) runs k (record { lo = 0; hi = 0 }) c.loop-run-test.true in
    omega (arith, more, count_is runs span c.requires, count_small (lies_in runs) (points_of span), size_is span, c.loop-run.invariant)

pub returns : goal.returns
returns c =
    let runs = c.args.runs.now in
    let span = c.args.span.now in
    c.loop-run.invariant ∙ (ap (λ (rs : List Span). sum_by (shared span) rs) (take_all c.loop-run.run-index runs (omega arith)) ∙ sym (count_is runs span c.requires))
