use Rattle.std.proofs.Common.{◌≤◌, List, length, subst, arith}
use Rattle.std.specs.List.{AllByRecursion}
use Rattle.std.proofs.lemmas.List.{take_all}
use Rattle.spec_model.specs.declared.log.LogItem.{LogItem}
use Rattle.causal_store.specs.Stores.{room_in}
use Rattle.causal_store.proofs.Rooms.{room_for_all}
use Rattle.std.proofs.Common.{◌∙◌}
use Rattle.causal_store.proofs.Stepped.{own_still}
use Rattle.causal_store.proofs.store.Store.ready.Goals as goal

pub returns-clause-room : goal.returns-clause-room
returns-clause-room c = λ origin.
    let items : List LogItem = c.args.items.now in
    let room = room_in c.loop-item.self in
    let k = c.loop-item.item-index in
    let all : AllByRecursion (λ (i : LogItem). length items ≤ room i.origin) items = subst (AllByRecursion (λ (i : LogItem). length items ≤ room i.origin)) (take_all k items (omega (arith, c.loop-item-test.false))) c.loop-item.invariant.rooms in
    room_for_all room items (length items) origin all (omega arith)

pub returns-clause-own : goal.returns-clause-own
returns-clause-own c = λ spec n own. own_still spec n c.args.self.now c.loop-item.self c.loop-item.invariant.logs c.loop-item.invariant.cut c.loop-item.invariant.tags c.loop-item.invariant.sums own

pub returns-in_err-make_room-clause-own : goal.returns-in_err-make_room-clause-own
returns-in_err-make_room-clause-own c = λ spec n own. own_still spec n c.args.self.now c.make_room.new.self (c.make_room.ensures.logs ∙ c.loop-item.invariant.logs) (c.make_room.ensures.cut ∙ c.loop-item.invariant.cut) (c.make_room.ensures.tags ∙ c.loop-item.invariant.tags) (c.make_room.ensures.sums ∙ c.loop-item.invariant.sums) own
