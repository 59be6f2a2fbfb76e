use Rattle.std.proofs.Common.{◌≡◌, ◌++◌}
use Rattle.replica_world.specs.Ended.{AreDisksOf}
use Rattle.replica_world.proofs.world.disks_of.Given as goal

abbrev pub invariant-loop-storage : goal.invariant-loop-storage
invariant-loop-storage g l = (l.yielded ++ l.storage-iterator.rest.items ≡ l.fn.storages.items) × AreDisksOf g.S.D.Disk.standing g.S.Storage.shows g.S.Storage.keeps g.S.Storage.comes_back l.yielded l.disks.items
