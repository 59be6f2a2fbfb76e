use Rattle.std.proofs.Common.{ap, ◌∙◌}
use Rattle.std.specs.Prelude.{None}
use Rattle.run_model.specs.declared.step.Outcome.TheVariants as outcomes
use Rattle.run_model.specs.declared.step.StepEntry.{StepEntry}
use Rattle.replica_course.specs.Parts.{entry_of, take_of}
use Rattle.replica_course.specs.declared.answer.Answer.{Answer}
use Rattle.replica_course.specs.declared.course.State.TheVariants as states
use Rattle.replica_course.proofs.Acting.{tried_room}
use Rattle.replica_course.proofs.Takes.{can_take, entry_given, taking_entry, took_kept}
use Rattle.replica_course.proofs.course.Course.took.Goals as goal

pub commit_take-requires : goal.commit_take-requires
commit_take-requires c = can_take c.args.setup.now c.args.message.now c.args.stamp c.args.taken c.requires.0 c.args.self.now c.requires.1

pub end_with-requires : goal.end_with-requires
end_with-requires c =
    let old = c.requires.0 in
    let took = c.commit_take.ensures in
    (record old { state = states.Up took.has }, entry_of old c.args.stamp (take_of c.args.message.now) outcomes.DiskBroken, tried_room c.args.setup.now c.args.stamp (take_of c.args.message.now) c.args.taken.batch.items old c.args.self.now c.commit_take.new.self c.requires.1.tried took.was took.has took.changed)

pub returns : goal.returns
returns c = λ old h.
    let message = c.args.message.now in
    let stamp = c.args.stamp in
    let mid = c.commit_take.new.self in
    let same = taking_entry c.args.setup.now message stamp c.args.taken old c.args.self.now mid h c.commit_take.ensures in
    let entry = c.entry-entry.ensures ∙ entry_given mid stamp message c.args.taken c.take_ask-ask.result c.took_outcome-2.result c.take_ask-ask.ensures c.took_outcome-2.ensures ∙ same in
    let answer = c.entry-answer.ensures ∙ entry_given mid stamp message c.args.taken c.take_ask-ask.result c.took_outcome.result c.take_ask-ask.ensures c.took_outcome.ensures ∙ same in
    took_kept c.args.setup.now message stamp c.args.taken old c.args.self.now mid c.end_with.new.self c.entry-entry.result _ h c.commit_take.ensures entry c.end_with.ensures (ap (λ (e : StepEntry). let a : Answer = record { entry = e; sent = None } in a) answer)
