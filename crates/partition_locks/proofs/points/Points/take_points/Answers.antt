use Rattle.std.proofs.Common.{◌≡◌, true, sym, subst}
use Rattle.std.specs.Prelude.{nat_lt, ◌+◌, length}
use Rattle.std.proofs.lemmas.Bool.{and_parts}
use Rattle.ind_base.specs.declared.span.Span.{Span}
use Rattle.partition_locks.specs.Edits.{spare_in}
use Rattle.partition_locks.specs.Held.{HeldPoints, are_below, holds_all, is_roomy, held_times, point_times}
use Rattle.partition_locks.proofs.Counted.{given_counts}
use Rattle.partition_locks.proofs.Rooms.{held_each, less_below, room_left, roomy_still}
use Rattle.partition_locks.proofs.points.Points.take_points.Goals as goal

pub take_out-requires-clause-held : goal.take_out-requires-clause-held
take_out-requires-clause-held c =
    let old : HeldPoints = record { runs = c.self.inside.items.items; spare = spare_in c.self.inside.items } in
    held_each old c.args.span.now (subst (λ h. holds_all h c.args.span.now ≡ true) (sym c.self.view_is) c.requires.held)

pub unreachable-requires : goal.unreachable-requires
unreachable-requires c =
    let v = c.self.inside.items in
    room_left v.items (spare_in v) c.self.invariant (subst (λ h. is_roomy h ≡ true) (sym c.self.view_is) c.requires.roomy) (c.in-Err.ensures.err).full

pub returns-clause-taken : goal.returns-clause-taken
returns-clause-taken c =
    let old : HeldPoints = record { runs = c.self.inside.items.items; spare = spare_in c.self.inside.items } in
    let new : HeldPoints = record { runs = c.take_out.new.runs.items; spare = spare_in c.take_out.new.runs } in
    let span : Span = c.args.span.now in
    λ x. subst (λ h. held_times h x ≡ held_times new x + point_times span x) c.self.view_is
    (given_counts old new span c.in-Ok.ensures.ok (held_each old span (subst (λ h. holds_all h span ≡ true) (sym c.self.view_is) c.requires.held)) x)

pub returns-clause-roomy : goal.returns-clause-roomy
returns-clause-roomy c =
    let v = c.self.inside.items in
    let w = c.take_out.new.runs in
    let old : HeldPoints = record { runs = v.items; spare = spare_in v } in
    let new : HeldPoints = record { runs = w.items; spare = spare_in w } in
    let roomy : is_roomy old ≡ true = subst (λ h. is_roomy h ≡ true) (sym c.self.view_is) c.requires.roomy in
    let parts = and_parts (nat_lt 512 (length v.items + spare_in v)) (are_below 1024 v.items) roomy in
    roomy_still v w c.take_out.ensures.capacity c.take_out.ensures.apart (less_below old new c.args.span.now parts.1 c.in-Ok.ensures.ok) roomy
