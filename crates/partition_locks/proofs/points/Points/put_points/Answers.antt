use Rattle.std.proofs.Common.{◌≡◌, true, sym, subst}
use Rattle.std.specs.Prelude.{nat_lt, ◌+◌, length}
use Rattle.std.proofs.lemmas.Bool.{and_parts}
use Rattle.partition_locks.specs.Edits.{spare_in}
use Rattle.partition_locks.specs.Held.{HeldPoints, are_below, is_roomy}
use Rattle.partition_locks.proofs.Rooms.{more_below, room_left, roomy_still}
use Rattle.partition_locks.proofs.points.Points.put_points.Goals as goal

pub unreachable-requires : goal.unreachable-requires
unreachable-requires c =
    let v = c.self.inside.items in
    room_left v.items (spare_in v) c.self.invariant (subst (λ h. is_roomy h ≡ true) (sym c.self.view_is) c.requires.roomy) (c.in-Err.ensures.err).full

pub returns-clause-roomy : goal.returns-clause-roomy
returns-clause-roomy c =
    let v = c.self.inside.items in
    let w = c.add.new.runs in
    let old : HeldPoints = record { runs = v.items; spare = spare_in v } in
    let new : HeldPoints = record { runs = w.items; spare = spare_in w } in
    let roomy : is_roomy old ≡ true = subst (λ h. is_roomy h ≡ true) (sym c.self.view_is) c.requires.roomy in
    let parts = and_parts (nat_lt 512 (length v.items + spare_in v)) (are_below 1024 v.items) roomy in
    roomy_still v w c.add.ensures.capacity c.add.ensures.apart (more_below old new c.args.span.now parts.1 c.requires.below c.in-Ok.ensures.ok) roomy
