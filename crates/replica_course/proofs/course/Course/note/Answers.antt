use Rattle.std.proofs.Common.{refl}
use Rattle.replica_course.proofs.course.Course.note.Goals as goal

pub returns : goal.returns
returns c = record { was = c.in-Up.replica; has = c.note.new.self; changed = record { up = c.in-Up.is; becomes = refl }; answered = c.note.ensures }
