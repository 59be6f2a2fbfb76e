use Rattle.std.proofs.Common.{arith}
use Rattle.replica_course.proofs.Seen.{room_up}
use Rattle.replica_course.proofs.course.Course.draft.Goals as goal

pub take-requires-clause-room : goal.take-requires-clause-room
take-requires-clause-room c = room_up c.args.setup.now c.args.self.now.me 24 c.args.self.now c.in-Up.replica c.requires.own c.in-Up.is c.requires.room (omega arith)
