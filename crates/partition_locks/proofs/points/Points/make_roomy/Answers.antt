use Rattle.std.proofs.Common.{List, ap, sym, subst, ◌∙◌, arith}
use Rattle.ind_base.specs.declared.span.Span.{Span}
use Rattle.partition_locks.specs.Held.{HeldPoints, AreApart, IsAbove, lies_in}
use Rattle.partition_locks.specs.Edits.{spare_in}
use Rattle.partition_locks.proofs.Rooms.{roomy_made}
use Rattle.partition_locks.proofs.points.Points.make_roomy.Goals as goal

pub returns-clause-ok : goal.returns-clause-ok
returns-clause-ok c =
    let now = c.reserve.new.self in
    let old : HeldPoints = record { runs = c.self.inside.items.items; spare = spare_in c.self.inside.items } in
    let above : IsAbove 1024 old = subst (IsAbove 1024) (sym c.self.view_is) c.requires in
    roomy_made now (subst (AreApart 0) (sym c.in_ok-reserve.ensures.items) c.self.invariant) (λ x lies. above x (ap (λ (rs : List Span). lies_in rs x) (sym c.in_ok-reserve.ensures.items) ∙ lies)) (omega (arith, c.in_ok-reserve.ensures.ok, now.ok))
