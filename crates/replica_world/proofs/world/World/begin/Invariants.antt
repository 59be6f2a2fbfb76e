use Rattle.std.proofs.Common.{◌≡◌, ◌++◌, length}
use Rattle.replica_world.proofs.Begun.{AreBegun}
use Rattle.replica_world.proofs.world.World.begin.Given as goal

abbrev pub invariant-loop-disk : goal.invariant-loop-disk
invariant-loop-disk g l =
    (l.yielded ++ l.disk-iterator.rest.items ≡ l.fn.disks.items) × (l.me ≡ length l.yielded)
    × AreBegun g.S.D.Disk.standing g.S.Storage.shows g.S.Storage.keeps l.setup l.yielded l.courses.items l.storages.items
