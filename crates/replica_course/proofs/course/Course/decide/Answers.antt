use Rattle.std.proofs.Common.{arith}
use Rattle.replica_course.proofs.Seen.{room_up}
use Rattle.replica_course.proofs.course.Course.decide.Goals as goal

pub request-requires-clause-room : goal.request-requires-clause-room
request-requires-clause-room c = room_up c.args.setup.now c.args.self.now.me 1 c.args.self.now c.in-Up.replica c.requires.own c.in-Up.is c.requires.room (omega arith)
