use Rattle.std.proofs.Common.{◌≡◌, filter, List, ◌++◌, ap, ◌∙◌}
use Rattle.ind_base.specs.declared.span.Span.{Span}
use Rattle.spec_model.specs.Universe.{below}
use Rattle.run_model.specs.Points.{runs_of}
use Rattle.partition_locks.specs.Held.{HeldPoints, clipped, holds, lies_in}
use Rattle.partition_locks.proofs.Clips.{clipped_has, clipped_runs}
use Rattle.partition_locks.proofs.points.Points.runs_below.Goals as goal

pub returns-clause-runs : goal.returns-clause-runs
returns-clause-runs c =
    let all = c.args.all in
    c.in_ok-clip.ensures
    ∙ ap (λ (xs : List Span). xs ++ clipped all c.as_slice.result.now) c.new-out.ensures
    ∙ ap (clipped all) c.as_slice.ensures.value
    ∙ clipped_runs all c.self.inside.items.items c.self.invariant
    ∙ ap (λ (h : HeldPoints). runs_of (filter (holds h) (below all))) c.self.view_is

pub returns-clause-points : goal.returns-clause-points
returns-clause-points c = λ x lt.
    let all = c.args.all in
    let runs : List Span = c.self.inside.items.items in
    let is : c.clip.new.out ≡ clipped all runs = c.in_ok-clip.ensures ∙ ap (λ (xs : List Span). xs ++ clipped all c.as_slice.result.now) c.new-out.ensures ∙ ap (clipped all) c.as_slice.ensures.value in
    ap (λ (rs : List Span). lies_in rs x) is ∙ clipped_has all runs x lt ∙ ap (λ (h : HeldPoints). holds h x) c.self.view_is
