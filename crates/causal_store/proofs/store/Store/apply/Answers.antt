use Rattle.std.proofs.Common.{◌<◌, arith, length, List}
use Rattle.std.specs.Global.{Vec}
use Rattle.std.proofs.lemmas.List.{length-map}
use Rattle.spec_model.specs.declared.log.LogItem.{LogItem}
use Rattle.causal_store.specs.Folds.{all_items}
use Rattle.causal_store.proofs.TouchedAtoms.{can_tag}
use Rattle.causal_store.specs.Stores.{logs_in}
use Rattle.causal_store.proofs.Agreed.{applied_more}
use Rattle.causal_store.proofs.Stepped.{one_more}
use Rattle.causal_store.proofs.Rooms.{first_room, has_room, log_there, pushed_on, room_left}
use Rattle.causal_store.proofs.store.Store.apply.Goals as goal

pub index_mut-requires : goal.index_mut-requires
index_mut-requires c = omega (arith, c.requires.fits.origin, length-map c.args.self.now.logs.items (λ (l : Vec LogItem). l.items))

pub push_within-requires : goal.push_within-requires
push_within-requires c =
    let logs : List (Vec LogItem) = c.args.self.now.logs.items in
    let i = c.args.item.now.origin in
    let lt : i < length logs = omega (arith, c.requires.fits.origin, length-map logs (λ (l : Vec LogItem). l.items)) in
    has_room logs i c.index_mut.result.now (log_there logs i c.index_mut.result.now lt c.index_mut.ensures.value) (first_room logs c.args.item.now c.requires.room.0 (c.requires.room.1 i))

pub returns-clause-applied : goal.returns-clause-applied
returns-clause-applied c =
    let logs : List (Vec LogItem) = c.args.self.now.logs.items in
    let item = c.args.item.now in
    let lt : item.origin < length logs = omega (arith, c.requires.fits.origin, length-map logs (λ (l : Vec LogItem). l.items)) in
    pushed_on logs item.origin c.index_mut.result.now c.push_within.new.log item (log_there logs item.origin c.index_mut.result.now lt c.index_mut.ensures.value) c.push_within.ensures.items

pub returns-clause-own : goal.returns-clause-own
returns-clause-own c =
    let logs : List (Vec LogItem) = c.args.self.now.logs.items in
    let item = c.args.item.now in
    let lt : item.origin < length logs = omega (arith, c.requires.fits.origin, length-map logs (λ (l : Vec LogItem). l.items)) in
    let pushed = pushed_on logs item.origin c.index_mut.result.now c.push_within.new.log item (log_there logs item.origin c.index_mut.result.now lt c.index_mut.ensures.value) c.push_within.ensures.items in
    one_more c.args.spec.now (length (logs_in c.args.self.now)) c.args.self.now _ item c.requires.own c.requires.fits c.requires.next pushed c.set.ensures c.tag_item.ensures c.sum_item.ensures

pub returns-clause-order : goal.returns-clause-order
returns-clause-order c =
    let n = length (logs_in c.args.self.now) in
    λ items applied seen. applied_more c.args.spec.now n items c.args.item.now c.args.self.now _ applied (returns-clause-own c) c.requires.fits.origin c.requires.next seen (returns-clause-applied c)

pub returns-clause-room : goal.returns-clause-room
returns-clause-room c =
    let logs : List (Vec LogItem) = c.args.self.now.logs.items in
    let item = c.args.item.now in
    let lt : item.origin < length logs = omega (arith, c.requires.fits.origin, length-map logs (λ (l : Vec LogItem). l.items)) in
    let there = log_there logs item.origin c.index_mut.result.now lt c.index_mut.ensures.value in
    λ items. room_left logs item c.index_mut.result.now c.push_within.new.log items there c.push_within.ensures.items c.push_within.ensures.room

pub tag_item-requires-clause-fits : goal.tag_item-requires-clause-fits
tag_item-requires-clause-fits c = can_tag c.args.spec.now (length (logs_in c.args.self.now)) (all_items (logs_in c.args.self.now)) c.args.item.now c.args.self.now.tags c.requires.own.tags c.requires.fits.origin c.requires.fits.past
