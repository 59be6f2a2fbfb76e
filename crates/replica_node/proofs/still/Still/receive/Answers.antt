use Rattle.std.proofs.Common.{◌≡◌, true, false, sym, ◌∙◌}
use Rattle.replica_course.specs.Courses.{running_of}
use Rattle.replica_node.proofs.Received.{closes_down, closes_up, stays_down, up_stays}
use Rattle.replica_node.proofs.Taking.{receives_down, receives_up}
use Rattle.replica_node.proofs.still.Still.receive.Goals as goal

pub returns-then-is_up-clause-own : goal.returns-then-is_up-clause-own
returns-then-is_up-clause-own g c =
    receives_up g.S.Storage.keeps c.args.setup.now c.args.self.now.course.me c.args.self.now c.take_this.new.self c.args.message (running_of c.args.self.now.course) c.take_this.result (c.is_up.ensures.0 c.if-is_up.true) c.take_this.ensures.own

pub returns-else-is_up-clause-own : goal.returns-else-is_up-clause-own
returns-else-is_up-clause-own g c =
    receives_down g.S.Storage.keeps c.args.setup.now c.args.self.now.course.me c.args.self.now c.act.new.self c.args.message (running_of c.args.self.now.course) c.act.result
    (λ up. absurd (let wrong : true ≡ false = sym (c.is_up.ensures.1 up) ∙ c.if-is_up.false in cc)) c.act.ensures.stays c.act.ensures.hands

pub returns-then-is_up-clause-closing : goal.returns-then-is_up-clause-closing
returns-then-is_up-clause-closing g c = closes_up c.args.message c.take_this.result c.take_this.ensures.asked

pub returns-then-is_up-clause-down : goal.returns-then-is_up-clause-down
returns-then-is_up-clause-down g c = up_stays c.args.self.now.course c.take_this.new.self.course c.take_this.result (c.is_up.ensures.0 c.if-is_up.true)

pub returns-else-is_up-clause-closing : goal.returns-else-is_up-clause-closing
returns-else-is_up-clause-closing g c =
    closes_down c.args.message c.args.self.now.course c.act.new.self.course c.act.result
    (λ up. absurd (let wrong : true ≡ false = sym (c.is_up.ensures.1 up) ∙ c.if-is_up.false in cc)) c.act.ensures.rests

pub returns-else-is_up-clause-down : goal.returns-else-is_up-clause-down
returns-else-is_up-clause-down g c = stays_down c.args.message c.args.self.now.course c.act.new.self.course c.act.result c.act.ensures.rests
