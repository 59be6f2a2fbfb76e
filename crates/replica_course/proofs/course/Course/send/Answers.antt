use Rattle.std.proofs.Common.{ℕ, length, ap, ◌∙◌}
use Rattle.std.specs.Prelude.{Some}
use Rattle.run_model.specs.declared.step.Ask.TheVariants as asks
use Rattle.run_model.specs.declared.step.Outcome.TheVariants as outcomes
use Rattle.run_model.specs.declared.step.StepEntry.{StepEntry}
use Rattle.replica_course.specs.Parts.{entry_of, with_entry}
use Rattle.replica_course.specs.declared.heard.Heard.TheVariants as heard
use Rattle.replica_course.proofs.Upright.{sent_step}
use Rattle.replica_course.proofs.Stepping.{has_rested}
use Rattle.replica_course.proofs.course.Course.send.Goals as goal

pub returns-clause-ended : goal.returns-clause-ended
returns-clause-ended c =
    let old = c.args.self.now in
    let stamp = c.stamp_after-stamp.result in
    let message = c.in_ok-message.message in
    let entry : ℕ → ℕ → StepEntry = λ n m. entry_of old stamp (asks.Send c.args.to (Some c.args.number)) (outcomes.Sent c.args.number n m) in
    let same = ap (λ n. entry n c.len-2.result) c.len.ensures.value ∙ ap (entry (length message.items)) c.len-2.ensures.value in
    has_rested c.args.setup.now (asks.Send c.args.to (Some c.args.number)) heard.Nothing old stamp (outcomes.Sent c.args.number (length message.items) (length message.wants)) (Some message) c.in_ok-entry.entry c.write.new.self
    (sent_step c.args.setup.now c.args.to c.args.number old stamp message c.requires.own c.requires.up c.requires.peer.1 c.in_ok-message.ensures.message c.in_ok-message.ensures.fits c.stamp_after-stamp.ensures)
    (c.in_ok-entry.ensures.entry ∙ same) (c.in_ok-entry.ensures.ok ∙ ap (λ e. with_entry e old) same)
