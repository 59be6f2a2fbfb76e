use Rattle.std.specs.Prelude.{None}
use Rattle.run_model.specs.declared.step.Outcome.TheVariants as outcomes
use Rattle.replica_course.specs.declared.heard.Heard.TheVariants as heard
use Rattle.replica_course.proofs.Rested.{rested_down}
use Rattle.replica_course.proofs.Stepping.{has_rested}
use Rattle.replica_course.proofs.course.Course.rest_down.Goals as goal

pub returns-clause-ended : goal.returns-clause-ended
returns-clause-ended c =
    let old = c.args.self.now in
    let stamp = c.stamp_after.result in
    has_rested c.args.setup.now c.args.ask heard.Nothing old stamp outcomes.Down None c.in_ok-entry.entry c.write.new.self
    (rested_down c.args.setup.now c.args.ask old stamp c.requires.own c.requires.down c.requires.rests c.stamp_after.ensures) c.in_ok-entry.ensures.entry c.in_ok-entry.ensures.ok
