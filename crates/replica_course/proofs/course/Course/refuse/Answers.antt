use Rattle.std.specs.Prelude.{None}
use Rattle.run_model.specs.declared.step.Ask.TheVariants as asks
use Rattle.run_model.specs.declared.step.Outcome.TheVariants as outcomes
use Rattle.replica_course.specs.declared.heard.Heard.TheVariants as heard
use Rattle.replica_course.proofs.Rested.{refused}
use Rattle.replica_course.proofs.Stepping.{has_rested}
use Rattle.replica_course.proofs.course.Course.refuse.Goals as goal

pub returns-clause-ended : goal.returns-clause-ended
returns-clause-ended c =
    let old = c.args.self.now in
    let stamp = c.stamp_after.result in
    has_rested c.args.setup.now (asks.Do c.args.inst.now) heard.Nothing old stamp (outcomes.Breaks c.args.broken) None c.in_ok-entry.entry c.write.new.self
    (refused c.args.setup.now c.args.inst.now c.args.broken old stamp c.requires.own c.requires.up c.requires.decided c.stamp_after.ensures) c.in_ok-entry.ensures.entry c.in_ok-entry.ensures.ok
