use Rattle.std.proofs.Common.{ap}
use Rattle.std.specs.Prelude.{None}
use Rattle.run_model.specs.declared.step.StepEntry.{StepEntry}
use Rattle.run_model.specs.declared.step.Ask.TheVariants as asks
use Rattle.run_model.specs.declared.step.Outcome.TheVariants as outcomes
use Rattle.replica_course.specs.Parts.{entry_of}
use Rattle.replica_course.specs.declared.answer.Answer.{Answer}
use Rattle.replica_course.specs.declared.course.State.TheVariants as states
use Rattle.replica_course.proofs.Acting.{acted_kept, can_act, tried_room}
use Rattle.replica_course.proofs.course.Course.acted.Goals as goal

pub commit_act-requires : goal.commit_act-requires
commit_act-requires c = (c.args.inst.now, can_act c.args.setup.now c.args.inst.now c.args.stamp c.args.batch c.requires.0 c.args.self.now c.requires.1)

pub end_with-requires : goal.end_with-requires
end_with-requires c =
    let old = c.requires.0 in
    let h = c.requires.1 in
    let acted = c.commit_act.ensures c.args.inst.now (can_act c.args.setup.now c.args.inst.now c.args.stamp c.args.batch old c.args.self.now h) in
    (record old { state = states.Up acted.has }, entry_of old c.args.stamp (asks.Do c.args.inst.now) outcomes.DiskBroken, tried_room c.args.setup.now c.args.stamp (asks.Do c.args.inst.now) c.args.batch.items old c.args.self.now c.commit_act.new.self h.tried acted.was acted.has acted.changed)

pub returns : goal.returns
returns c = λ old h.
    let acted = c.commit_act.ensures c.args.inst.now (can_act c.args.setup.now c.args.inst.now c.args.stamp c.args.batch old c.args.self.now h) in
    acted_kept c.args.setup.now c.args.inst.now c.args.stamp c.place_of-index.result c.args.batch old c.args.self.now c.commit_act.new.self c.end_with.new.self c.entry.result _ h acted c.place_of-index.ensures c.entry.ensures c.end_with.ensures
    (ap (λ (e : StepEntry). let a : Answer = record { entry = e; sent = None } in a) c.entry-2.ensures)
