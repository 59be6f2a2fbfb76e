use Rattle.std.proofs.Common.{◌≡◌, ◌++◌, length}
use Rattle.request_workers.specs.Handing.{AreBack}
use Rattle.request_workers.proofs.disks.give_back.Given as goal

abbrev pub invariant-loop-disk : goal.invariant-loop-disk
invariant-loop-disk g l =
    (l.yielded ++ l.disk-iterator.rest.items ≡ l.fn.disks.items) × (l.replica ≡ length l.yielded)
    × AreBack g.B.D.Disk.standing g.B.Bay.tells g.B.Bay.has_given g.B.Bay.given g.B.Bay.left (length l.yielded) l.fn.bay l.bay l.fn.disks.items
