use Rattle.std.proofs.Common.{ap, sym, ◌∙◌}
use Rattle.run_model.specs.declared.step.Ask.TheVariants as asks
use Rattle.run_model.specs.declared.step.Outcome.{Outcome}
use Rattle.replica_course.specs.Parts.{entry_of}
use Rattle.replica_course.proofs.Stopped.{up_without}
use Rattle.replica_course.proofs.course.Course.come_up_without.Goals as goal

pub returns : goal.returns
returns c = λ setup old h.
    let same = c.outcome_without.ensures ∙ sym c.outcome_without-2.ensures in
    up_without setup c.args.stamp c.args.replica old c.args.self.now c.end_without.new.self c.entry.result c.entry-answer.result c.outcome_without-2.result h c.outcome_without-2.ensures c.entry.ensures c.end_without.ensures
    (c.entry-answer.ensures ∙ ap (λ (o : Outcome). entry_of c.args.self.now c.args.stamp asks.Recover o) same)
