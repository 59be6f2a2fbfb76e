use Rattle.std.proofs.Common.{◌≡◌, List, [], Some, refl, subst}
use Rattle.spec_model.specs.declared.log.LogItem.{LogItem}
use Rattle.causal_store.specs.Stores.{HasRoomFor}
use Rattle.replica_core.specs.Next.{act_among}
use Rattle.replica_core.proofs.Readied.{ready_again}
use Rattle.replica_core.proofs.Replayed.{on_ok_then, stays_same}
use Rattle.replica_core.proofs.replica.Replica.ready_behind.Goals as goal

pub returns-then-same_act-clause-same : goal.returns-then-same_act-clause-same
returns-then-same_act-clause-same c = stays_same c.args.setup.now c.args.self.now _ c.requires.own (c.ready.ensures.own c.args.setup.now.spec c.args.setup.now.replicas c.requires.own.store) refl c.ready.ensures.logs c.ready.ensures.cut c.requires.own.all

pub returns-then-same_act-clause-ready : goal.returns-then-same_act-clause-ready
returns-then-same_act-clause-ready c =
    let setup = c.args.setup.now in
    let old = c.args.self.now in
    let items : List LogItem = c.args.batch.now.items in
    let none : setup.plan.masks ≡ [] = c.if-is_empty.ensures.0 refl in
    let found = c.if-same_act.ensures refl in
    let alone : act_among old.me items ≡ Some found.0 = subst (λ (l : List LogItem). act_among old.me l ≡ Some found.0) c.as_slice-items.ensures.value found.2 in
    on_ok_then c.ready.result c.ready.ensures.room
    (λ room. ready_again setup old c.ready.new.self items found.0 alone (c.requires.readied none found.0 found.1) (subst (HasRoomFor c.ready.new.self) c.as_slice-items.ensures.value room))
