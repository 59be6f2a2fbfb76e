use Rattle.std.proofs.Common.{[], List, length, ap, sym, subst, arith}
use Rattle.std.proofs.lemmas.List.{append-nil}
use Rattle.spec_model.specs.declared.log.LogItem.{LogItem}
use Rattle.causal_store.specs.Stores.{HasRoomFor}
use Rattle.replica_core.proofs.Changes.{own_again, put_both}
use Rattle.replica_core.proofs.Readied.{learned_put}
use Rattle.replica_core.proofs.Replayed.{Replays, has_replayed, replayed_log, replays_here}
use Rattle.replica_core.proofs.replica.Replica.replay.Goals as goal

pub learn-requires-clause-others : goal.learn-requires-clause-others
learn-requires-clause-others c =
    let setup = c.args.setup.now in
    let old = c.args.self.now in
    let front : List LogItem = c.split_at.result.0.now in
    let own : List LogItem = c.split_at.result.1.now in
    let reps : Replays setup old c.args.batch.now.items front own =
    replays_here setup old c.args.batch.now c.as_slice-items.result.now front own c.others.result c.requires.own c.requires.decided c.as_slice-items.ensures.value c.split_at.ensures.front c.split_at.ensures.back c.others.ensures.others c.others.ensures.own c.others.ensures.within in
    (reps.from, reps.can)

pub learn-requires-clause-ready : goal.learn-requires-clause-ready
learn-requires-clause-ready c =
    let setup = c.args.setup.now in
    let old = c.args.self.now in
    let front : List LogItem = c.split_at.result.0.now in
    let own : List LogItem = c.split_at.result.1.now in
    let reps : Replays setup old c.args.batch.now.items front own =
    replays_here setup old c.args.batch.now c.as_slice-items.result.now front own c.others.result c.requires.own c.requires.decided c.as_slice-items.ensures.value c.split_at.ensures.front c.split_at.ensures.back c.others.ensures.others c.others.ensures.own c.others.ensures.within in
    (own, subst (HasRoomFor old.store) reps.items_are c.requires.ready.room)

pub put_all-requires-clause-own : goal.put_all-requires-clause-own
put_all-requires-clause-own c =
    let setup = c.args.setup.now in
    let old = c.args.self.now in
    let front : List LogItem = c.split_at.result.0.now in
    let own : List LogItem = c.split_at.result.1.now in
    let reps : Replays setup old c.args.batch.now.items front own =
    replays_here setup old c.args.batch.now c.as_slice-items.result.now front own c.others.result c.requires.own c.requires.decided c.as_slice-items.ensures.value c.split_at.ensures.front c.split_at.ensures.back c.others.ensures.others c.others.ensures.own c.others.ensures.within in
    own_again setup old.me c.learn.new.self c.learn.ensures.own

pub put_all-requires-clause-next : goal.put_all-requires-clause-next
put_all-requires-clause-next c =
    let setup = c.args.setup.now in
    let old = c.args.self.now in
    let front : List LogItem = c.split_at.result.0.now in
    let own : List LogItem = c.split_at.result.1.now in
    let reps : Replays setup old c.args.batch.now.items front own =
    replays_here setup old c.args.batch.now c.as_slice-items.result.now front own c.others.result c.requires.own c.requires.decided c.as_slice-items.ensures.value c.split_at.ensures.front c.split_at.ensures.back c.others.ensures.others c.others.ensures.own c.others.ensures.within in
    (reps.next c.requires.ready c.learn.new.self c.learn.ensures.own c.learn.ensures.learned).0

pub put_all-requires-clause-entries : goal.put_all-requires-clause-entries
put_all-requires-clause-entries c =
    let setup = c.args.setup.now in
    let old = c.args.self.now in
    let front : List LogItem = c.split_at.result.0.now in
    let own : List LogItem = c.split_at.result.1.now in
    let reps : Replays setup old c.args.batch.now.items front own =
    replays_here setup old c.args.batch.now c.as_slice-items.result.now front own c.others.result c.requires.own c.requires.decided c.as_slice-items.ensures.value c.split_at.ensures.front c.split_at.ensures.back c.others.ensures.others c.others.ensures.own c.others.ensures.within in
    (reps.next c.requires.ready c.learn.new.self c.learn.ensures.own c.learn.ensures.learned).1

pub put_all-requires-clause-room : goal.put_all-requires-clause-room
put_all-requires-clause-room c =
    let setup = c.args.setup.now in
    let old = c.args.self.now in
    let front : List LogItem = c.split_at.result.0.now in
    let own : List LogItem = c.split_at.result.1.now in
    let reps : Replays setup old c.args.batch.now.items front own =
    replays_here setup old c.args.batch.now c.as_slice-items.result.now front own c.others.result c.requires.own c.requires.decided c.as_slice-items.ensures.value c.split_at.ensures.front c.split_at.ensures.back c.others.ensures.others c.others.ensures.own c.others.ensures.within in
    omega (arith, ap length (replayed_log setup c.args.batch.now.items front own old c.learn.new.self c.requires.own reps c.learn.ensures.own c.learn.ensures.learned), reps.few, c.requires.room)

pub put_all-requires-clause-ready : goal.put_all-requires-clause-ready
put_all-requires-clause-ready c =
    let setup = c.args.setup.now in
    let old = c.args.self.now in
    let front : List LogItem = c.split_at.result.0.now in
    let own : List LogItem = c.split_at.result.1.now in
    let reps : Replays setup old c.args.batch.now.items front own =
    replays_here setup old c.args.batch.now c.as_slice-items.result.now front own c.others.result c.requires.own c.requires.decided c.as_slice-items.ensures.value c.split_at.ensures.front c.split_at.ensures.back c.others.ensures.others c.others.ensures.own c.others.ensures.within in
    ([], subst (HasRoomFor c.learn.new.self.store) (sym (append-nil own)) (c.learn.ensures.ready own (subst (HasRoomFor old.store) reps.items_are c.requires.ready.room)))

pub returns-clause-put : goal.returns-clause-put
returns-clause-put c = put_both c.args.self.now c.learn.new.self c.put_all.new.self (learned_put c.args.setup.now c.split_at.result.0.now c.args.self.now c.learn.new.self c.learn.ensures.learned) c.put_all.ensures.put

pub returns-clause-replayed : goal.returns-clause-replayed
returns-clause-replayed c =
    let setup = c.args.setup.now in
    let old = c.args.self.now in
    let front : List LogItem = c.split_at.result.0.now in
    let own : List LogItem = c.split_at.result.1.now in
    let reps : Replays setup old c.args.batch.now.items front own =
    replays_here setup old c.args.batch.now c.as_slice-items.result.now front own c.others.result c.requires.own c.requires.decided c.as_slice-items.ensures.value c.split_at.ensures.front c.split_at.ensures.back c.others.ensures.others c.others.ensures.own c.others.ensures.within in
    has_replayed setup c.args.batch.now.items front own old c.learn.new.self c.put_all.new.self c.requires.own reps c.requires.ready c.learn.ensures.own c.learn.ensures.learned c.put_all.ensures.logged
