use Rattle.std.proofs.Common.{◌+◌, ◌++◌, ◌∷◌, [], List, map, take, drop, sym, subst, arith, length-take}
use Rattle.std.proofs.lemmas.List.{drop_all, length-map}
use Rattle.spec_model.specs.declared.log.Body.{Body}
use Rattle.spec_model.specs.declared.log.LogItem.{LogItem}
use Rattle.spec_model.specs.declared.right.Need.{Need}
use Rattle.causal_store.specs.Stores.{HasRoomFor}
use Rattle.replica_core.specs.Next.{AreEntered, AreNext}
use Rattle.replica_core.specs.Replicas.{known_to, standing_of}
use Rattle.replica_core.proofs.Changes.{logged_alone, logged_both, logged_these, longer_by, own_again, put_both}
use Rattle.replica_core.proofs.Lists.{drop_step, map_take_more}
use Rattle.replica_core.proofs.Next.{entered_next, next_first, next_then}
use Rattle.replica_core.proofs.replica.Replica.put_all.Goals as goal

pub put-requires-clause-own : goal.put-requires-clause-own
put-requires-clause-own c = own_again c.args.setup.now c.args.self.now.me c.loop-item.self c.loop-item.invariant.logged.own

pub put-requires-clause-next : goal.put-requires-clause-next
put-requires-clause-next c =
    let setup = c.args.setup.now in
    let mid = c.loop-item.self in
    let items : List LogItem = c.args.items.now in
    let k = c.loop-item.item-index in
    let x : LogItem = c.item-item.result in
    next_first setup mid mid.needs x (drop (k + 1) items) (drop_step (AreNext setup (known_to mid) mid.me mid.needs (standing_of 0 [] [] mid)) items k x c.loop-item-test.true c.item-item.is c.loop-item.invariant.next)

pub put-requires-clause-entry : goal.put-requires-clause-entry
put-requires-clause-entry c =
    let setup = c.args.setup.now in
    let mid = c.loop-item.self in
    let items : List LogItem = c.args.items.now in
    let k = c.loop-item.item-index in
    let x : LogItem = c.item-item.result in
    (drop_step (AreEntered setup (known_to mid) mid.needs mid.table) items k x c.loop-item-test.true c.item-item.is c.loop-item.invariant.entered).0

pub put-requires-clause-room : goal.put-requires-clause-room
put-requires-clause-room c =
    let k = c.loop-item.item-index in
    let front : List LogItem = take k c.args.items.now in
    let long = longer_by c.args.setup.now (map (λ (i : LogItem). i.body) front) c.args.self.now c.loop-item.self c.loop-item.invariant.logged in
    omega (arith, long, length-map front (λ (i : LogItem). i.body), length-take k c.args.items.now, c.loop-item-test.true, c.requires.room)

pub loop-item-preserved : goal.loop-item-preserved
loop-item-preserved c =
    let old = c.args.self.now in
    let new = c.put.new.self in
    let setup = c.args.setup.now in
    let mid = c.loop-item.self in
    let items : List LogItem = c.args.items.now in
    let k = c.loop-item.item-index in
    let x : LogItem = c.item-item.result in
    let bodies : List LogItem → List Body = map (λ (i : LogItem). i.body) in
    let rest : List LogItem = drop (k + 1) items in
    let next = drop_step (AreNext setup (known_to mid) mid.me mid.needs (standing_of 0 [] [] mid)) items k x c.loop-item-test.true c.item-item.is c.loop-item.invariant.next in
    let entered = drop_step (AreEntered setup (known_to mid) mid.needs mid.table) items k x c.loop-item-test.true c.item-item.is c.loop-item.invariant.entered in
    let then' : AreNext setup (known_to new) new.me mid.needs (standing_of 0 [] [] new) rest = next_then setup mid.needs x.body mid new rest c.put.ensures.logged next.1 in
    record {
      logged = logged_these setup (bodies (take k items) ++ x.body ∷ []) (bodies (take (k + 1) items)) old new (sym (map_take_more (λ (i : LogItem). i.body) items k x c.loop-item-test.true c.item-item.is))
          (logged_both setup (bodies (take k items)) (x.body ∷ []) old mid new c.loop-item.invariant.logged (logged_alone setup x.body mid new c.put.ensures.logged));
      put = put_both old mid new c.loop-item.invariant.put c.put.ensures.put;
      ready = λ more h. c.put.ensures.ready (rest ++ more) (drop_step (λ (l : List LogItem). HasRoomFor mid.store (l ++ more)) items k x c.loop-item-test.true c.item-item.is (c.loop-item.invariant.ready more h));
      next = subst (λ (n : List Need). AreNext setup (known_to new) new.me n (standing_of 0 [] [] new) rest) (sym c.put.ensures.put.needs) then';
      entered = entered_next setup x.body mid new rest c.put.ensures.logged c.put.ensures.put then' entered.1;
    }

pub put-requires-clause-ready : goal.put-requires-clause-ready
put-requires-clause-ready c =
    let items : List LogItem = c.args.items.now in
    let k = c.loop-item.item-index in
    let more : List LogItem = c.requires.ready.0 in
    (drop (k + 1) items ++ more, drop_step (λ (l : List LogItem). HasRoomFor c.loop-item.self.store (l ++ more)) items k c.item-item.result c.loop-item-test.true c.item-item.is (c.loop-item.invariant.ready more c.requires.ready.1))

pub returns-clause-ready : goal.returns-clause-ready
returns-clause-ready c = λ more h.
    let items : List LogItem = c.args.items.now in
    subst (λ (l : List LogItem). HasRoomFor c.loop-item.self.store (l ++ more)) (drop_all c.loop-item.item-index items (omega (arith, c.loop-item-test.false))) (c.loop-item.invariant.ready more h)
