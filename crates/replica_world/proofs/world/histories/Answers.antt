use Rattle.replica_world.proofs.Shown.{next_there}
use Rattle.replica_world.proofs.world.histories.Goals as goal

pub finish-requires-clause-own : goal.finish-requires-clause-own
finish-requires-clause-own c = (c.requires.can _ c.in-Some.course (next_there c.args.courses.items c.loop-course.yielded _ _ _ c.loop-course.invariant.0 (c.in-Some.ensures.steps).0)).0

pub finish-requires-clause-few : goal.finish-requires-clause-few
finish-requires-clause-few c = (c.requires.can _ c.in-Some.course (next_there c.args.courses.items c.loop-course.yielded _ _ _ c.loop-course.invariant.0 (c.in-Some.ensures.steps).0)).1
