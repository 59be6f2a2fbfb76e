use Rattle.replica_course.proofs.Begun.{begun_with}
use Rattle.replica_course.proofs.course.Course.begin.Goals as goal

pub returns : goal.returns
returns c = begun_with c.args.setup.now c.args.me c.args.up c.in_ok-state.state c.new.result c.new-2.result c.requires.setup c.requires.place c.requires.few c.in_ok-state.ensures c.new.ensures c.new-2.ensures
