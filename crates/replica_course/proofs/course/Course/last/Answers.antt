use Rattle.replica_course.proofs.Begun.{short_up}
use Rattle.replica_course.proofs.course.Course.last.Goals as goal

pub last-requires-clause-short : goal.last-requires-clause-short
last-requires-clause-short c = short_up c.args.setup.now c.args.self.now c.in-Up.replica c.requires.own c.in-Up.is c.requires.few
