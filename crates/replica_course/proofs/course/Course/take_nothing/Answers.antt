use Rattle.std.proofs.Common.{ap, ◌∙◌}
use Rattle.run_model.specs.declared.step.StepEntry.{StepEntry}
use Rattle.replica_course.specs.Parts.{with_entry}
use Rattle.replica_course.proofs.Takes.{can_take_at, emptied, entry_given}
use Rattle.replica_course.specs.declared.course.Course.{Course}
use Rattle.replica_course.proofs.course.Course.take_nothing.Goals as goal

pub commit_take-requires : goal.commit_take-requires
commit_take-requires c =
    can_take_at c.args.setup.now c.args.message.now c.args.taken.now c.args.self.now c.ready.new.self c.write.new.self c.requires.own c.requires.decided c.requires.room c.ready.ensures.same c.in_ok-ready.ensures.ready (ap (λ (s : Course). s.state) c.in_ok-entry.ensures.ok)

pub returns-clause-ended : goal.returns-clause-ended
returns-clause-ended c =
    let message = c.args.message.now in
    let taken = c.args.taken.now in
    let ready = c.ready.new.self in
    let stamp = c.stamp_after-stamp.result in
    let given = entry_given ready stamp message taken c.take_ask.result c.took_outcome.result c.take_ask.ensures c.took_outcome.ensures in
    emptied c.args.setup.now message stamp taken c.args.self.now ready c.write.new.self c.commit_take.new.self c.in_ok-entry.entry c.requires.own c.requires.decided c.requires.nothing c.ready.ensures.same c.stamp_after-stamp.ensures
    (c.in_ok-entry.ensures.entry ∙ given) (c.in_ok-entry.ensures.ok ∙ ap (λ (e : StepEntry). with_entry e ready) given) c.commit_take.ensures
