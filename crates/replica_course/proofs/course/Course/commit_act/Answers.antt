use Rattle.std.proofs.Common.{refl}
use Rattle.replica_course.proofs.Seen.{act_decided}
use Rattle.replica_course.proofs.course.Course.commit_act.Goals as goal

pub commit_act-requires-clause-decided : goal.commit_act-requires-clause-decided
commit_act-requires-clause-decided c =
    let can = c.requires.1 in
    (c.requires.0, can.fits, act_decided c.args.setup.now c.requires.0 c.args.batch.now c.args.self.now c.in-Up.replica c.in-Up.is can)

pub returns : goal.returns
returns c = λ inst can. record {
  was = c.in-Up.replica;
  has = c.commit_act.new.self;
  changed = record { up = c.in-Up.is; becomes = refl };
  known = c.commit_act.ensures.known;
  answered = c.commit_act.ensures.answered inst (act_decided c.args.setup.now inst c.args.batch.now c.args.self.now c.in-Up.replica c.in-Up.is can);
}
