use Rattle.std.proofs.Common.{refl}
use Rattle.replica_course.specs.Courses.{running_of}
use Rattle.replica_node.proofs.Acting.{acted_not}
use Rattle.replica_node.proofs.Grown.{is_hand}
use Rattle.replica_node.proofs.Taking.{hand_fits, held_at, peer_within, took_held}
use Rattle.replica_node.proofs.still.Still.take_held.Goals as goal

pub step_with-requires-clause-in_hand : goal.step_with-requires-clause-in_hand
step_with-requires-clause-in_hand g c =
    let own = c.requires.own in
    let lt = peer_within g.S.Storage.keeps c.args.setup.now c.args.self.now.course.me c.args.from own.0 own.1 c.args.self.now own.2 c.requires.peer in
    let there = held_at c.args.self.now.hands c.as_slice.result.now c.args.from c.index-as_slice-at.result c.as_slice.ensures.value c.index-as_slice-at.is lt in
    hand_fits (running_of c.args.self.now.course) c.args.from c.number_of.result c.index-as_slice-at.result c.requires.up (own.2.from c.args.from c.index-as_slice-at.result there) c.number_of.ensures

pub step_with-requires-clause-hand : goal.step_with-requires-clause-hand
step_with-requires-clause-hand g c =
    let own = c.requires.own in
    let lt = peer_within g.S.Storage.keeps c.args.setup.now c.args.self.now.course.me c.args.from own.0 own.1 c.args.self.now own.2 c.requires.peer in
    let there = held_at c.args.self.now.hands c.as_slice.result.now c.args.from c.index-as_slice-at.result c.as_slice.ensures.value c.index-as_slice-at.is lt in
    is_hand c.args.from c.index-as_slice-at.result (own.2.from c.args.from c.index-as_slice-at.result there)

pub returns-in_err-entry-clause-stays : goal.returns-in_err-entry-clause-stays
returns-in_err-entry-clause-stays g c =
    acted_not g.S.Storage.keeps c.args.setup.now c.args.self.now (record c.args.self.now { course = c.step_with.new.course; storage = c.step_with.new.storage }) c.in_err-entry.ensures.own c.in_err-entry.ensures.kept c.in_err-entry.ensures.err refl

pub returns-clause-stays : goal.returns-clause-stays
returns-clause-stays g c =
    let own = c.requires.own in
    let lt = peer_within g.S.Storage.keeps c.args.setup.now c.args.self.now.course.me c.args.from own.0 own.1 c.args.self.now own.2 c.requires.peer in
    let there = held_at c.args.self.now.hands c.as_slice.result.now c.args.from c.index-as_slice-at.result c.as_slice.ensures.value c.index-as_slice-at.is lt in
    took_held g.S.Storage.keeps c.args.setup.now c.args.self.now (record { course = c.step_with.new.course; storage = c.step_with.new.storage; hands = c.set.new.self }) c.args.from c.number_of.result c.index-as_slice-at.result c.in_ok-entry.field-0 lt there
    c.in_ok-entry.ensures.own c.in_ok-entry.ensures.kept c.in_ok-entry.ensures.adds c.in_ok-entry.ensures.steps c.set.ensures
