use Rattle.run_model.specs.declared.step.Ask.TheVariants as asks
use Rattle.replica_course.specs.declared.heard.Heard.TheVariants as heard
use Rattle.replica_course.proofs.Acting.{tried_failed}
use Rattle.replica_course.proofs.Kept.{act_pending, stayed_before}
use Rattle.replica_course.proofs.Rested.{ended_err}
use Rattle.replica_course.proofs.course.Course.act.Goals as goal

pub returns-in_err-attempt-clause-ended : goal.returns-in_err-attempt-clause-ended
returns-in_err-attempt-clause-ended g c =
    ended_err c.args.setup.now (asks.Do c.args.inst.now) heard.Nothing c.args.self.now c.attempt.new.self c.from_residual.result c.from_residual.ensures.0 (stayed_before c.args.setup.now c.args.self.now c.attempt.new.self c.requires.own c.in_err-attempt.ensures.err)

pub returns-else-branch-clause-ended : goal.returns-else-branch-clause-ended
returns-else-branch-clause-ended g c =
    let old = c.args.self.now in
    let step = act_pending c.args.setup.now c.args.inst.now c.args.batch old c.stamp_after-stamp.result c.requires.own c.requires.up c.requires.fits c.requires.decided c.stamp_after-stamp.ensures in
    tried_failed c.args.setup.now c.stamp_after-stamp.result (asks.Do c.args.inst.now) heard.Nothing c.args.batch old c.attempt.new.self c.fail.new.self c.fail.result step c.in_ok-attempt.ensures.tried c.fail.ensures.answer c.fail.ensures.failed
