use Rattle.run_model.specs.declared.step.Ask.TheVariants as asks
use Rattle.run_model.specs.declared.step.Outcome.TheVariants as outcomes
use Rattle.std.specs.Prelude.{None}
use Rattle.replica_course.specs.Parts.{entry_of}
use Rattle.replica_course.specs.declared.course.State.TheVariants as states
use Rattle.replica_course.proofs.Stopped.{left_room, pending_anew, recovering_room, up_with}
use Rattle.replica_course.proofs.course.Course.come_up_with.Goals as goal

pub replay-requires-clause-decided : goal.replay-requires-clause-decided
replay-requires-clause-decided c = pending_anew c.args.setup.now c.args.stamp c.args.replica c.requires.recovering.0 c.args.self.now c.in-Some.batch c.requires.recovering.1 c.in-Some.ensures.pending

pub replay-requires-clause-room : goal.replay-requires-clause-room
replay-requires-clause-room c = recovering_room c.args.setup.now c.args.stamp c.args.replica c.requires.recovering.0 c.args.self.now c.requires.recovering.1

pub end_with-requires : goal.end_with-requires
end_with-requires c =
    let old = c.requires.recovering.0 in
    (record old { state = states.Down None }, entry_of old c.args.stamp asks.Recover outcomes.DiskBroken, left_room c.args.setup.now c.args.stamp c.args.replica old c.args.self.now c.take_pending.new.self (states.Down None) c.requires.recovering.1 c.take_pending.ensures.left)

pub returns : goal.returns
returns c = λ old h.
    up_with c.args.setup.now c.args.stamp c.args.replica c.replay.new.self c.in-Some.batch old c.args.self.now c.take_pending.new.self c.end_with.new.self c.entry.result c.entry-in-Some.result h c.in-Some.ensures.pending c.take_pending.ensures.left c.replay.ensures.replayed c.entry.ensures c.end_with.ensures c.entry-in-Some.ensures
