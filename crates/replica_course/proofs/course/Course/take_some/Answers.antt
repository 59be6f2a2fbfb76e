use Rattle.std.proofs.Common.{sym, subst, ap, ◌∙◌}
use Rattle.std.specs.Prelude.{None}
use Rattle.run_model.specs.declared.step.Ask.{Ask}
use Rattle.run_model.specs.declared.step.Outcome.TheVariants as outcomes
use Rattle.replica_course.specs.Parts.{HasTried, entry_of, failed, take_of}
use Rattle.replica_course.specs.declared.answer.Answer.{Answer}
use Rattle.replica_course.specs.declared.heard.Heard.TheVariants as heard
use Rattle.replica_course.proofs.Acting.{tried_failed}
use Rattle.replica_course.proofs.Takes.{take_pending}
use Rattle.replica_course.proofs.course.Course.take_some.Goals as goal

pub returns-else-branch-clause-ended : goal.returns-else-branch-clause-ended
returns-else-branch-clause-ended g c =
    let old = c.args.self.now in
    let setup = c.args.setup.now in
    let stamp = c.stamp_after-stamp.result in
    let batch = c.args.taken.batch in
    let now = c.attempt.new.self in
    let new = c.fail.new.self in
    let is = c.take_ask-ask.ensures in
    let step = take_pending setup c.args.message.now c.args.taken old stamp c.requires.own c.requires.up c.requires.decided c.requires.some c.stamp_after-stamp.ensures in
    tried_failed setup stamp (take_of c.args.message.now) (heard.Message c.args.message.now) batch old now new c.fail.result step
    (subst (λ (a : Ask). HasTried setup stamp a batch.items old now) is c.in_ok-attempt.ensures.tried)
    (c.fail.ensures.answer ∙ ap (λ (a : Ask). let r : Answer = record { entry = entry_of now stamp a outcomes.DiskBroken; sent = None } in r) is)
    (λ s o tried. c.fail.ensures.failed s o (subst (λ (a : Ask). HasTried s stamp a batch.items o now) (sym is) tried) ∙ ap (λ (a : Ask). failed stamp a batch o) is)
