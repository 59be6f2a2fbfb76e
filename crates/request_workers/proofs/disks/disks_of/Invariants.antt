use Rattle.request_workers.specs.Handing.{AreHanded}
use Rattle.request_workers.proofs.disks.disks_of.Given as goal

abbrev pub invariant-loop-replica : goal.invariant-loop-replica
invariant-loop-replica g l = AreHanded g.B.D.Disk.standing g.B.D.Disk.may_leave g.B.Bay.tells g.B.Bay.has_given g.B.Bay.given g.B.Bay.left l.lines l.replica l.fn.bay l.bay l.disks.items
