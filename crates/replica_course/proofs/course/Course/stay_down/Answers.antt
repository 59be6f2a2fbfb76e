use Rattle.replica_course.proofs.Stopped.{down_still}
use Rattle.replica_course.proofs.course.Course.stay_down.Goals as goal

pub returns : goal.returns
returns c = λ setup r old h. down_still setup c.args.stamp r old c.args.self.now c.end_without.new.self c.entry.result c.entry-2.result h c.entry.ensures c.end_without.ensures c.entry-2.ensures
