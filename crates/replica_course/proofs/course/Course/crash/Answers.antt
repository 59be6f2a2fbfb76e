use Rattle.replica_course.proofs.Stopped.{crashed}
use Rattle.replica_course.proofs.course.Course.crash.Goals as goal

pub returns-clause-ended : goal.returns-clause-ended
returns-clause-ended g c = crashed c.args.setup.now c.args.self.now c.write.new.self c.stamp_after.result c.in_ok-entry.entry c.requires.own c.requires.up c.stamp_after.ensures c.in_ok-entry.ensures.entry c.in_ok-entry.ensures.ok
