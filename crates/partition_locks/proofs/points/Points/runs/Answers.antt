use Rattle.std.proofs.Common.{filter, ◌≡◌, List, sym, ap, ◌∙◌}
use Rattle.ind_base.specs.declared.span.Span.{Span}
use Rattle.spec_model.specs.Universe.{below}
use Rattle.run_model.specs.Points.{runs_of}
use Rattle.partition_locks.specs.Held.{HeldPoints, lies_in}
use Rattle.partition_locks.proofs.Queries.{maximal_runs}
use Rattle.partition_locks.proofs.points.Points.runs.Goals as goal

pub returns-clause-runs : goal.returns-clause-runs
returns-clause-runs c =
    let runs : List Span = c.self.inside.items.items in
    let same : runs ≡ c.args.self.now.runs = ap (λ (h : HeldPoints). h.runs) c.self.view_is in
    λ all above. c.as_slice.ensures.value
    ∙ (maximal_runs all runs c.self.invariant (λ x lies. above x (ap (λ (rs : List Span). lies_in rs x) (sym same) ∙ lies))
    ∙ ap (λ (rs : List Span). runs_of (filter (lies_in rs) (below all))) same)
