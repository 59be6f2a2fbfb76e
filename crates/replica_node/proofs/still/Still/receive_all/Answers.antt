use Rattle.std.proofs.Common.{rules, ◌≡◌, [], refl, sym, ap, subst, ◌∙◌, arith, List, ◌++◌, length, append-nil, length-append}
use Rattle.run_model.specs.declared.message.Message.{Message}
use Rattle.replica_node.specs.Closing.{HasReceived}
use Rattle.replica_node.specs.Nodes.{in_hand}
use Rattle.replica_node.proofs.Received.{none_left, next_of, next_within, received_long, received_own, received_peer, received_step, receives_one}
use Rattle.replica_node.proofs.still.Still.receive_all.Goals as goal

pub loop-message-init : goal.loop-message-init
loop-message-init g c = (
  c.into_iter-message-iterator.ensures.into_iter_gives.0 ∙ c.into_vec-message-items.ensures,
  subst (λ ms. HasReceived g.S.Storage.keeps g.S.Storage.shows c.args.setup.now c.args.from ms c.args.self.now c.receive_held.new.self) (sym (append-nil (in_hand c.args.self.now.hands c.args.from))) (c.in_ok-receive_held.ensures),
)

pub receive-requires : goal.receive-requires
receive-requires g c =
    let h = c.loop-message.invariant.1 in
    let split = c.in-Some.ensures.steps.0 in
    let theirs = next_of (λ m. m.from ≡ c.args.from) c.args.left c.loop-message.yielded _ _ c.in-Some.message c.requires.theirs c.loop-message.invariant.0 split in
    let held = in_hand c.args.self.now.hands c.args.from in
    let within = next_within c.args.left c.loop-message.yielded _ _ c.in-Some.message c.loop-message.invariant.0 split in
    let long = received_long g.S.Storage.keeps g.S.Storage.shows c.args.setup.now c.args.from (held ++ c.loop-message.yielded) c.args.self.now c.loop-message.self h in
    record {
      own = received_own g.S.Storage.keeps g.S.Storage.shows c.args.setup.now c.args.from (held ++ c.loop-message.yielded) c.args.self.now c.loop-message.self c.requires.own h;
      peer = received_peer g.S.Storage.keeps g.S.Storage.shows c.args.setup.now c.args.from (held ++ c.loop-message.yielded) c.in-Some.message c.args.self.now c.loop-message.self theirs c.requires.peer h;
      room = omega (arith, long, within, c.requires.room, length-append held c.loop-message.yielded, length-append held c.args.left);
    }

pub loop-message-preserved : goal.loop-message-preserved
loop-message-preserved g c =
    received_step g.S.Storage.keeps g.S.Storage.shows c.args.setup.now c.args.from c.args.left c.loop-message.yielded _ _ (in_hand c.args.self.now.hands c.args.from) c.in-Some.message c.in_ok-receive.field-0 c.args.self.now c.loop-message.self c.receive.new.self
    c.requires.theirs c.loop-message.invariant.0 c.in-Some.ensures.steps.0 c.loop-message.invariant.1
    (receives_one g.S.Storage.keeps g.S.Storage.shows c.args.setup.now c.args.from c.in-Some.message c.in_ok-receive.field-0 c.loop-message.self c.receive.new.self
    c.in_ok-receive.ensures.own c.in_ok-receive.ensures.hands c.in_ok-receive.ensures.answers c.in_ok-receive.ensures.closing c.in_ok-receive.ensures.down c.in_ok-receive.ensures.costs)

pub loop-message-preserved-in_ok-receive : goal.loop-message-preserved-in_ok-receive
loop-message-preserved-in_ok-receive g c =
    received_step g.S.Storage.keeps g.S.Storage.shows c.args.setup.now c.args.from c.args.left c.loop-message.yielded _ _ (in_hand c.args.self.now.hands c.args.from) c.in-Some.message c.in_ok-receive.field-0 c.args.self.now c.loop-message.self c.receive.new.self
    c.requires.theirs c.loop-message.invariant.0 c.in-Some.ensures.steps.0 c.loop-message.invariant.1
    (receives_one g.S.Storage.keeps g.S.Storage.shows c.args.setup.now c.args.from c.in-Some.message c.in_ok-receive.field-0 c.loop-message.self c.receive.new.self
    c.in_ok-receive.ensures.own c.in_ok-receive.ensures.hands c.in_ok-receive.ensures.answers c.in_ok-receive.ensures.closing c.in_ok-receive.ensures.down c.in_ok-receive.ensures.costs)

pub loop-message-preserved-in_ok-receive-2 : goal.loop-message-preserved-in_ok-receive-2
loop-message-preserved-in_ok-receive-2 g c =
    received_step g.S.Storage.keeps g.S.Storage.shows c.args.setup.now c.args.from c.args.left c.loop-message.yielded _ _ (in_hand c.args.self.now.hands c.args.from) c.in-Some.message c.in_ok-receive.field-0 c.args.self.now c.loop-message.self c.receive.new.self
    c.requires.theirs c.loop-message.invariant.0 c.in-Some.ensures.steps.0 c.loop-message.invariant.1
    (receives_one g.S.Storage.keeps g.S.Storage.shows c.args.setup.now c.args.from c.in-Some.message c.in_ok-receive.field-0 c.loop-message.self c.receive.new.self
    c.in_ok-receive.ensures.own c.in_ok-receive.ensures.hands c.in_ok-receive.ensures.answers c.in_ok-receive.ensures.closing c.in_ok-receive.ensures.down c.in_ok-receive.ensures.costs)

pub returns : goal.returns
returns g c =
    let none : c.loop-message.message-iterator.rest.items ≡ [] = none_left _ (search rules) in
    let held = in_hand c.args.self.now.hands c.args.from in
    let all : c.loop-message.yielded ≡ c.args.left = sym (append-nil c.loop-message.yielded) ∙ ap (λ (ms : List Message). c.loop-message.yielded ++ ms) (sym none) ∙ c.loop-message.invariant.0 in
    subst (λ ms. HasReceived g.S.Storage.keeps g.S.Storage.shows c.args.setup.now c.args.from (held ++ ms) c.args.self.now c.loop-message.self) all c.loop-message.invariant.1
