use Rattle.replica_world.proofs.Shown.{can_show, journal_at}
use Rattle.replica_world.proofs.world.World.finish.Goals as goal

pub histories-requires : goal.histories-requires
histories-requires g c = record { can = can_show c.args.setup.now c.requires.running.0 c.args.self.courses.items c.args.self.links.items c.requires.running.1 c.requires.running.2 }

pub returns-clause-journals : goal.returns-clause-journals
returns-clause-journals g c =
    journal_at g.S.D.Disk.standing g.S.Storage.shows g.S.Storage.keeps g.S.Storage.comes_back c.args.setup.now c.args.self.courses.items c.args.self.storages.items c.in_ok-disks.disks.items c.requires.kept c.in_ok-disks.ensures

pub returns-clause-shown : goal.returns-clause-shown
returns-clause-shown g c me s d there at = (c.in_ok-disks.ensures.each me s d there at).shown
