use Rattle.partition_locks.proofs.Rooms.{copy_below}
use Rattle.partition_locks.proofs.points.Points.copy_roomy.Goals as goal

pub make_roomy-requires : goal.make_roomy-requires
make_roomy-requires c = copy_below c.args.self.now c.in_ok-points.points c.requires c.in_ok-points.ensures
