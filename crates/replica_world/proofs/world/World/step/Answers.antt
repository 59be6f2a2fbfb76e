use Rattle.std.proofs.Common.{◌∙◌}
use Rattle.replica_world.proofs.Answered.{all_as_before, stayed, stepped}
use Rattle.replica_world.proofs.world.World.step.Goals as goal

pub returns-in-Ok-clause-running : goal.returns-in-Ok-clause-running
returns-in-Ok-clause-running g c done run numbered short =
    stepped c.args.setup.now c.args.replica c.args.ask c.args.self.now.links.items c.make_room.new.links.items c.put_sent.new.links.items c.args.self.now.courses.items c.answer.new.self.courses.items c.in-Ok.field-0
    c.local_step_is_one.ensures c.messages_are_heeded.ensures c.decided_grow.ensures c.requires.settled c.requires.few c.requires.fits c.in-Ok.ensures.steps c.in_ok-make_room.ensures.ok
    (c.put_sent.ensures c.args.self.now.links.items run.linked.whole (c.in-Ok.ensures.links ∙ c.in_ok-make_room.ensures.ok)) done run numbered short

pub returns-in-Err-clause-err : goal.returns-in-Err-clause-err
returns-in-Err-clause-err g c = (
  all_as_before c.args.setup.now c.args.replica c.args.self.now.courses.items c.answer.new.self.courses.items c.in-Err.ensures.err,
  c.leave_room.ensures c.args.self.now.links.items c.requires.running.1.linked.whole (c.in-Err.ensures.links ∙ c.in_ok-make_room.ensures.ok),
)

pub returns-in-Err-clause-running_still : goal.returns-in-Err-clause-running_still
returns-in-Err-clause-running_still g c done run =
    stayed c.args.setup.now c.args.replica c.args.self.now.links.items c.leave_room.new.links.items c.args.self.now.courses.items c.answer.new.self.courses.items c.in-Err.ensures.err
    (c.leave_room.ensures c.args.self.now.links.items run.linked.whole (c.in-Err.ensures.links ∙ c.in_ok-make_room.ensures.ok)) done run
