use Rattle.replica_course.proofs.Upright.{short_stepped}
use Rattle.replica_course.proofs.course.Course.fall_short.Goals as goal

pub returns-clause-ended : goal.returns-clause-ended
returns-clause-ended c =
    short_stepped c.args.setup.now c.args.inst.now c.args.lacking c.in_ok-wanted.wanted c.args.self.now c.write.new.self c.note.new.self c.stamp_after.result c.in_ok-entry.entry c.requires.own c.requires.decided c.in_ok-wanted.ensures c.stamp_after.ensures
    c.in_ok-entry.ensures.entry c.in_ok-entry.ensures.ok c.note.ensures
