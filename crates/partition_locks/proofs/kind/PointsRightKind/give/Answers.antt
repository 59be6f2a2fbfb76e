use Rattle.std.proofs.Common.{List, filter, length, ap, arith}
use Rattle.ind_base.specs.declared.span.Span.{Span}
use Rattle.run_model.specs.Points.{points_of}
use Rattle.partition_locks.specs.Held.{HeldPoints, lies_in}
use Rattle.partition_locks.proofs.Counts.{all_held}
use Rattle.partition_locks.proofs.Counted.{given_counts}
use Rattle.partition_locks.proofs.kind.PointsRightKind.give.Goals as goal
use Rattle.partition_locks.proofs.kind.PointsRightKind.give.Goals.{in-Ok, in-Err}

pub take_out-requires-clause-held : goal.take_out-requires-clause-held
take_out-requires-clause-held c =
    let runs : List Span = c.self.inside.items.items in
    let span : Span = c.args.span.now in
    let same = ap (λ (rs : List Span). length (filter (lies_in rs) (points_of span))) c.as_slice.ensures.value in
    all_held (lies_in runs) span (omega (arith, c.if-have-size_of.false, c.size_of.ensures, c.count_in-have.ensures, same))

pub returns-clause-moved : goal.returns-clause-moved
returns-clause-moved c =
    let runs : List Span = c.self.inside.items.items in
    let span : Span = c.args.span.now in
    let same = ap (λ (rs : List Span). length (filter (lies_in rs) (points_of span))) c.as_slice.ensures.value in
    let old : HeldPoints = record { runs = runs; spare = 0 } in
    let new : HeldPoints = record { runs = c.take_out.new.runs.items; spare = 0 } in
    let held = all_held (lies_in runs) span (omega (arith, c.if-have-size_of.false, c.size_of.ensures, c.count_in-have.ensures, same)) in
    elim c.match-take_out.branch [
      | in-Ok w ↦ rw (w.result-is, ← c.self.view_is) (given_counts old new span w.in-Ok.ensures.ok held)
      | in-Err w ↦ rw w.result-is tt
    ]
