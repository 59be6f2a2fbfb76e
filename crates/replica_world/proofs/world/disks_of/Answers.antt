use Rattle.replica_world.proofs.Shown.{disks_next}
use Rattle.replica_world.proofs.world.disks_of.Goals as goal

pub loop-storage-preserved : goal.loop-storage-preserved
loop-storage-preserved g c =
    disks_next g.S.D.Disk.standing g.S.Storage.shows g.S.Storage.keeps g.S.Storage.comes_back c.args.storages.items c.loop-storage.yielded _ _ c.loop-storage.disks.items _ c.in-Some.storage c.into_disk.result
    c.loop-storage.invariant.0 (c.in-Some.ensures.steps).0 c.in_ok-push.ensures.items c.loop-storage.invariant.1 (record { journal = c.into_disk.ensures.journal; shown = c.into_disk.ensures.shown })
