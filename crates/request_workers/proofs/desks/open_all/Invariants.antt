use Rattle.std.proofs.Common.{◌≡◌, ◌++◌, length}
use Rattle.request_workers.proofs.DesksOpened.{AreOpening}
use Rattle.request_workers.proofs.desks.open_all.Given as goal

abbrev pub invariant-loop-disk : goal.invariant-loop-disk
invariant-loop-disk g l =
    (l.yielded ++ l.disk-iterator.rest.items ≡ l.fn.disks.items) × (l.me ≡ length l.yielded)
    × AreOpening g.S.D.Disk.standing g.S.D.Disk.may_leave g.S.Storage.shows l.setup l.web l.yielded l.disk-iterator.rest.items l.left.items l.served
