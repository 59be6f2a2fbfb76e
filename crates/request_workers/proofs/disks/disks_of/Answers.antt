use Rattle.std.proofs.Common.{◌+◌, sym, subst, ◌∙◌}
use Rattle.request_workers.specs.Handing.{AreHanded}
use Rattle.request_workers.proofs.Handed.{given_one, one_handed}
use Rattle.request_workers.proofs.disks.disks_of.Goals as goal

pub loop-replica-preserved : goal.loop-replica-preserved
loop-replica-preserved g c =
    subst (λ disks. AreHanded g.B.D.Disk.standing g.B.D.Disk.may_leave g.B.Bay.tells g.B.Bay.has_given g.B.Bay.given g.B.Bay.left c.args.lines.now (c.loop-replica.replica + 1) c.args.bay.now c.disk.new.self disks) (sym c.in_ok-push.ensures.items)
    (one_handed g.B.D.Disk.standing g.B.D.Disk.may_leave g.B.Bay.tells g.B.Bay.has_given g.B.Bay.given g.B.Bay.left c.args.lines.now c.loop-replica.replica c.args.bay.now c.loop-replica.bay c.disk.new.self c.loop-replica.disks.items c.in_ok-disk.field-0 c.loop-replica.invariant
    (given_one g.B.D.Disk.standing g.B.D.Disk.may_leave g.B.Bay.tells g.B.Bay.has_given g.B.Bay.given g.B.Bay.left _ _ c.loop-replica.replica c.loop-replica.bay c.disk.new.self c.in_ok-disk.field-0 (c.as_slice.ensures.value ∙ c.in_ok-stops.ensures)
    (record {
      empty = c.in_ok-disk.ensures.empty;
      told = c.in_ok-disk.ensures.told;
      same = c.in_ok-disk.ensures.tells;
      place = c.in_ok-disk.ensures.place;
      places = c.in_ok-disk.ensures.places;
      asked = c.in_ok-disk.ensures.given;
      nothing_else = c.in_ok-disk.ensures.given_else;
      nothing_back = c.in_ok-disk.ensures.left;
    })))
