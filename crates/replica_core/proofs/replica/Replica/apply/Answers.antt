use Rattle.std.proofs.Common.{◌+◌, ◌++◌, List, take, drop, refl, subst, arith}
use Rattle.std.proofs.lemmas.List.{drop_all}
use Rattle.spec_model.specs.declared.log.LogItem.{LogItem}
use Rattle.causal_store.specs.Stores.{HasRoomFor}
use Rattle.replica_core.specs.Replicas.{CanLearn, HasLearned}
use Rattle.replica_core.specs.declared.replica.Replica.{Replica}
use Rattle.replica_core.proofs.Changes.{learned_more}
use Rattle.replica_core.proofs.Lists.{drop_step, take_step}
use Rattle.replica_core.proofs.replica.Replica.apply.Goals as goal

pub loop-item-preserved : goal.loop-item-preserved
loop-item-preserved c =
    let items : List LogItem = c.args.items.now in
    let k = c.loop-item.item-index in
    let x : LogItem = c.item-item.result in
    let can = drop_step (CanLearn c.args.spec.now c.loop-item.self) items k x c.loop-item-test.true c.item-item.is c.loop-item.invariant.can in
    let now : Replica = record c.loop-item.self { store = c.apply.new.self } in
    let both = learned_more c.args.spec.now (take k items) (drop (k + 1) items) x c.args.self.now c.loop-item.self now c.loop-item.invariant.learned can refl c.apply.ensures.own c.apply.ensures.applied c.loop-item.invariant.learned.store.whole in
    record { learned = subst (λ (l : List LogItem). HasLearned c.args.spec.now l c.args.self.now now) (take_step items k x c.loop-item-test.true c.item-item.is) both.0; can = both.1; ready = λ more h. c.apply.ensures.room (drop (k + 1) items ++ more) (drop_step (λ (l : List LogItem). HasRoomFor c.loop-item.self.store (l ++ more)) items k x c.loop-item-test.true c.item-item.is (c.loop-item.invariant.ready more h)) }

pub apply-requires-clause-room : goal.apply-requires-clause-room
apply-requires-clause-room c =
    let items : List LogItem = c.args.items.now in
    let k = c.loop-item.item-index in
    let more : List LogItem = c.requires.ready.0 in
    (drop (k + 1) items ++ more, drop_step (λ (l : List LogItem). HasRoomFor c.loop-item.self.store (l ++ more)) items k c.item-item.result c.loop-item-test.true c.item-item.is (c.loop-item.invariant.ready more c.requires.ready.1))

pub returns-clause-ready : goal.returns-clause-ready
returns-clause-ready c = λ more h.
    let items : List LogItem = c.args.items.now in
    subst (λ (l : List LogItem). HasRoomFor c.loop-item.self.store (l ++ more)) (drop_all c.loop-item.item-index items (omega (arith, c.loop-item-test.false))) (c.loop-item.invariant.ready more h)
