use Rattle.std.proofs.Common.{◌≡◌, ◌++◌, List, [], length, map, ap, sym, subst, arith}
use Rattle.std.proofs.lemmas.List.{append-nil, length-map}
use Rattle.spec_model.specs.declared.log.LogItem.{LogItem}
use Rattle.run_model.specs.Worlds.{Standing}
use Rattle.causal_store.specs.Stores.{HasRoomFor}
use Rattle.message_laws.proofs.Lists.{each_parts}
use Rattle.rights_table.specs.Whole.{HasEntryFor}
use Rattle.replica_core.specs.Next.{taken_by}
use Rattle.replica_core.specs.Replicas.{known_to, own_log}
use Rattle.replica_core.specs.declared.replica.Replica.{Replica}
use Rattle.replica_core.proofs.Changes.{longer_by, own_again}
use Rattle.replica_core.proofs.Committed.{plans_of}
use Rattle.replica_core.proofs.Doing.{AtHeard, AtLearned, AtLeft, AtMid, dropped_own, has_taken, heard_others, heard_own, heard_so, is_accepted, is_after, learned_entered, learned_next, left_entered, left_next, taken_known}
use Rattle.replica_core.proofs.replica.Replica.do_all.Goals as goal

pub learn-requires-clause-own : goal.learn-requires-clause-own
learn-requires-clause-own c =
    let setup = c.args.setup.now in
    let old = c.args.self.now in
    let front : List LogItem = c.args.applied.now in
    let accepts : List LogItem = c.args.accepts.now in
    let outs : List LogItem = c.args.outs.now in
    let m = c.requires.splits.0 in
    let taken = c.requires.splits.1 in
    let heard : AtHeard setup m taken old c.hear.new.self front accepts outs =
    record { splits = c.requires.splits.4; ready = c.requires.ready; is = heard_so m old c.hear.new.self c.args.from c.args.cut.now c.requires.splits.2 c.requires.splits.3 c.hear.ensures } in
    own_again setup old.me c.hear.new.self (heard_own setup m taken old c.hear.new.self front accepts outs heard)

pub learn-requires-clause-others : goal.learn-requires-clause-others
learn-requires-clause-others c =
    let setup = c.args.setup.now in
    let old = c.args.self.now in
    let front : List LogItem = c.args.applied.now in
    let accepts : List LogItem = c.args.accepts.now in
    let outs : List LogItem = c.args.outs.now in
    let m = c.requires.splits.0 in
    let taken = c.requires.splits.1 in
    let heard : AtHeard setup m taken old c.hear.new.self front accepts outs =
    record { splits = c.requires.splits.4; ready = c.requires.ready; is = heard_so m old c.hear.new.self c.args.from c.args.cut.now c.requires.splits.2 c.requires.splits.3 c.hear.ensures } in
    (m.from, heard_others setup m taken old c.hear.new.self front accepts outs heard)

pub learn-requires-clause-ready : goal.learn-requires-clause-ready
learn-requires-clause-ready c =
    let setup = c.args.setup.now in
    let old = c.args.self.now in
    let front : List LogItem = c.args.applied.now in
    let accepts : List LogItem = c.args.accepts.now in
    let outs : List LogItem = c.args.outs.now in
    let m = c.requires.splits.0 in
    let taken = c.requires.splits.1 in
    let heard : AtHeard setup m taken old c.hear.new.self front accepts outs =
    record { splits = c.requires.splits.4; ready = c.requires.ready; is = heard_so m old c.hear.new.self c.args.from c.args.cut.now c.requires.splits.2 c.requires.splits.3 c.hear.ensures } in
    (accepts ++ outs, subst (λ (r : Replica). HasRoomFor r.store (front ++ (accepts ++ outs))) (sym heard.is) c.requires.ready.room)

pub put_all-requires-clause-own : goal.put_all-requires-clause-own
put_all-requires-clause-own c =
    let setup = c.args.setup.now in
    let old = c.args.self.now in
    let front : List LogItem = c.args.applied.now in
    let accepts : List LogItem = c.args.accepts.now in
    let outs : List LogItem = c.args.outs.now in
    let m = c.requires.splits.0 in
    let taken = c.requires.splits.1 in
    let heard : AtHeard setup m taken old c.hear.new.self front accepts outs =
    record { splits = c.requires.splits.4; ready = c.requires.ready; is = heard_so m old c.hear.new.self c.args.from c.args.cut.now c.requires.splits.2 c.requires.splits.3 c.hear.ensures } in
    own_again setup c.hear.new.self.me c.learn.new.self c.learn.ensures.own

pub put_all-requires-clause-next : goal.put_all-requires-clause-next
put_all-requires-clause-next c =
    let setup = c.args.setup.now in
    let old = c.args.self.now in
    let front : List LogItem = c.args.applied.now in
    let accepts : List LogItem = c.args.accepts.now in
    let outs : List LogItem = c.args.outs.now in
    let m = c.requires.splits.0 in
    let taken = c.requires.splits.1 in
    let heard : AtHeard setup m taken old c.hear.new.self front accepts outs =
    record { splits = c.requires.splits.4; ready = c.requires.ready; is = heard_so m old c.hear.new.self c.args.from c.args.cut.now c.requires.splits.2 c.requires.splits.3 c.hear.ensures } in
    let learned : AtLearned setup m taken old c.hear.new.self c.learn.new.self front accepts outs = record { at = heard; own = c.learn.ensures.own; by = c.learn.ensures.learned } in
    learned_next setup m taken old c.hear.new.self c.learn.new.self front accepts outs c.learn.new.self.needs learned

pub put_all-requires-clause-entries : goal.put_all-requires-clause-entries
put_all-requires-clause-entries c =
    let setup = c.args.setup.now in
    let old = c.args.self.now in
    let front : List LogItem = c.args.applied.now in
    let accepts : List LogItem = c.args.accepts.now in
    let outs : List LogItem = c.args.outs.now in
    let m = c.requires.splits.0 in
    let taken = c.requires.splits.1 in
    let heard : AtHeard setup m taken old c.hear.new.self front accepts outs =
    record { splits = c.requires.splits.4; ready = c.requires.ready; is = heard_so m old c.hear.new.self c.args.from c.args.cut.now c.requires.splits.2 c.requires.splits.3 c.hear.ensures } in
    let learned : AtLearned setup m taken old c.hear.new.self c.learn.new.self front accepts outs = record { at = heard; own = c.learn.ensures.own; by = c.learn.ensures.learned } in
    (each_parts (λ (i : LogItem). HasEntryFor setup i.body (taken_by (known_to c.learn.new.self) i.body) c.learn.new.self.needs c.learn.new.self.table) accepts outs (learned_entered setup m taken old c.hear.new.self c.learn.new.self front accepts outs learned)).0

pub put_all-requires-clause-room : goal.put_all-requires-clause-room
put_all-requires-clause-room c =
    let setup = c.args.setup.now in
    let old = c.args.self.now in
    let front : List LogItem = c.args.applied.now in
    let accepts : List LogItem = c.args.accepts.now in
    let outs : List LogItem = c.args.outs.now in
    let m = c.requires.splits.0 in
    let taken = c.requires.splits.1 in
    let heard : AtHeard setup m taken old c.hear.new.self front accepts outs =
    record { splits = c.requires.splits.4; ready = c.requires.ready; is = heard_so m old c.hear.new.self c.args.from c.args.cut.now c.requires.splits.2 c.requires.splits.3 c.hear.ensures } in
    let learned : AtLearned setup m taken old c.hear.new.self c.learn.new.self front accepts outs = record { at = heard; own = c.learn.ensures.own; by = c.learn.ensures.learned } in
    let plans = plans_of setup m old taken front accepts outs c.requires.splits.4 in
    let same : length (own_log c.learn.new.self) ≡ length (own_log old) = ap (λ (p : Standing). length p.log) ((is_after setup m taken old c.hear.new.self c.learn.new.self front accepts outs learned).stands 0 [] []) in
    omega (arith, same, plans.few_accepts, c.requires.room)

pub put_all-requires-clause-ready : goal.put_all-requires-clause-ready
put_all-requires-clause-ready c =
    let setup = c.args.setup.now in
    let old = c.args.self.now in
    let front : List LogItem = c.args.applied.now in
    let accepts : List LogItem = c.args.accepts.now in
    let outs : List LogItem = c.args.outs.now in
    let m = c.requires.splits.0 in
    let taken = c.requires.splits.1 in
    let heard : AtHeard setup m taken old c.hear.new.self front accepts outs =
    record { splits = c.requires.splits.4; ready = c.requires.ready; is = heard_so m old c.hear.new.self c.args.from c.args.cut.now c.requires.splits.2 c.requires.splits.3 c.hear.ensures } in
    (outs, c.learn.ensures.ready (accepts ++ outs) (subst (λ (r : Replica). HasRoomFor r.store (front ++ (accepts ++ outs))) (sym heard.is) c.requires.ready.room))

pub drop_met-requires : goal.drop_met-requires
drop_met-requires c =
    let setup = c.args.setup.now in
    let old = c.args.self.now in
    let front : List LogItem = c.args.applied.now in
    let accepts : List LogItem = c.args.accepts.now in
    let outs : List LogItem = c.args.outs.now in
    let m = c.requires.splits.0 in
    let taken = c.requires.splits.1 in
    let heard : AtHeard setup m taken old c.hear.new.self front accepts outs =
    record { splits = c.requires.splits.4; ready = c.requires.ready; is = heard_so m old c.hear.new.self c.args.from c.args.cut.now c.requires.splits.2 c.requires.splits.3 c.hear.ensures } in
    let learned : AtLearned setup m taken old c.hear.new.self c.learn.new.self front accepts outs = record { at = heard; own = c.learn.ensures.own; by = c.learn.ensures.learned } in
    let mid : AtMid setup m taken old c.hear.new.self c.learn.new.self c.put_all.new.self front accepts outs = record { at = learned; logged = c.put_all.ensures.logged; put = c.put_all.ensures.put } in
    record { own = (is_accepted setup m taken old c.hear.new.self c.learn.new.self c.put_all.new.self front accepts outs mid).own }

pub put_all-requires-2-clause-own : goal.put_all-requires-2-clause-own
put_all-requires-2-clause-own c =
    let setup = c.args.setup.now in
    let old = c.args.self.now in
    let front : List LogItem = c.args.applied.now in
    let accepts : List LogItem = c.args.accepts.now in
    let outs : List LogItem = c.args.outs.now in
    let m = c.requires.splits.0 in
    let taken = c.requires.splits.1 in
    let heard : AtHeard setup m taken old c.hear.new.self front accepts outs =
    record { splits = c.requires.splits.4; ready = c.requires.ready; is = heard_so m old c.hear.new.self c.args.from c.args.cut.now c.requires.splits.2 c.requires.splits.3 c.hear.ensures } in
    let learned : AtLearned setup m taken old c.hear.new.self c.learn.new.self front accepts outs = record { at = heard; own = c.learn.ensures.own; by = c.learn.ensures.learned } in
    let mid : AtMid setup m taken old c.hear.new.self c.learn.new.self c.put_all.new.self front accepts outs = record { at = learned; logged = c.put_all.ensures.logged; put = c.put_all.ensures.put } in
    own_again setup c.put_all.new.self.me c.drop_met.new.self (dropped_own setup c.put_all.new.self c.drop_met.new.self (is_accepted setup m taken old c.hear.new.self c.learn.new.self c.put_all.new.self front accepts outs mid).own c.drop_met.ensures)

pub put_all-requires-2-clause-next : goal.put_all-requires-2-clause-next
put_all-requires-2-clause-next c =
    let setup = c.args.setup.now in
    let old = c.args.self.now in
    let front : List LogItem = c.args.applied.now in
    let accepts : List LogItem = c.args.accepts.now in
    let outs : List LogItem = c.args.outs.now in
    let m = c.requires.splits.0 in
    let taken = c.requires.splits.1 in
    let heard : AtHeard setup m taken old c.hear.new.self front accepts outs =
    record { splits = c.requires.splits.4; ready = c.requires.ready; is = heard_so m old c.hear.new.self c.args.from c.args.cut.now c.requires.splits.2 c.requires.splits.3 c.hear.ensures } in
    let learned : AtLearned setup m taken old c.hear.new.self c.learn.new.self front accepts outs = record { at = heard; own = c.learn.ensures.own; by = c.learn.ensures.learned } in
    let mid : AtMid setup m taken old c.hear.new.self c.learn.new.self c.put_all.new.self front accepts outs = record { at = learned; logged = c.put_all.ensures.logged; put = c.put_all.ensures.put } in
    let left : AtLeft setup m taken old c.hear.new.self c.learn.new.self c.put_all.new.self c.drop_met.new.self front accepts outs = record { at = mid; is = c.drop_met.ensures } in
    left_next setup m taken old c.hear.new.self c.learn.new.self c.put_all.new.self c.drop_met.new.self front accepts outs c.drop_met.new.self.needs left

pub put_all-requires-2-clause-entries : goal.put_all-requires-2-clause-entries
put_all-requires-2-clause-entries c =
    let setup = c.args.setup.now in
    let old = c.args.self.now in
    let front : List LogItem = c.args.applied.now in
    let accepts : List LogItem = c.args.accepts.now in
    let outs : List LogItem = c.args.outs.now in
    let m = c.requires.splits.0 in
    let taken = c.requires.splits.1 in
    let heard : AtHeard setup m taken old c.hear.new.self front accepts outs =
    record { splits = c.requires.splits.4; ready = c.requires.ready; is = heard_so m old c.hear.new.self c.args.from c.args.cut.now c.requires.splits.2 c.requires.splits.3 c.hear.ensures } in
    let learned : AtLearned setup m taken old c.hear.new.self c.learn.new.self front accepts outs = record { at = heard; own = c.learn.ensures.own; by = c.learn.ensures.learned } in
    let mid : AtMid setup m taken old c.hear.new.self c.learn.new.self c.put_all.new.self front accepts outs = record { at = learned; logged = c.put_all.ensures.logged; put = c.put_all.ensures.put } in
    let left : AtLeft setup m taken old c.hear.new.self c.learn.new.self c.put_all.new.self c.drop_met.new.self front accepts outs = record { at = mid; is = c.drop_met.ensures } in
    left_entered setup m taken old c.hear.new.self c.learn.new.self c.put_all.new.self c.drop_met.new.self front accepts outs left

pub put_all-requires-2-clause-room : goal.put_all-requires-2-clause-room
put_all-requires-2-clause-room c =
    let setup = c.args.setup.now in
    let old = c.args.self.now in
    let front : List LogItem = c.args.applied.now in
    let accepts : List LogItem = c.args.accepts.now in
    let outs : List LogItem = c.args.outs.now in
    let m = c.requires.splits.0 in
    let taken = c.requires.splits.1 in
    let heard : AtHeard setup m taken old c.hear.new.self front accepts outs =
    record { splits = c.requires.splits.4; ready = c.requires.ready; is = heard_so m old c.hear.new.self c.args.from c.args.cut.now c.requires.splits.2 c.requires.splits.3 c.hear.ensures } in
    let learned : AtLearned setup m taken old c.hear.new.self c.learn.new.self front accepts outs = record { at = heard; own = c.learn.ensures.own; by = c.learn.ensures.learned } in
    let plans = plans_of setup m old taken front accepts outs c.requires.splits.4 in
    let same : length (own_log c.learn.new.self) ≡ length (own_log old) = ap (λ (p : Standing). length p.log) ((is_after setup m taken old c.hear.new.self c.learn.new.self front accepts outs learned).stands 0 [] []) in
    let long = longer_by setup (map (λ (i : LogItem). i.body) accepts) c.learn.new.self c.put_all.new.self c.put_all.ensures.logged in
    omega (arith, same, long, length-map accepts (λ (i : LogItem). i.body), plans.few_accepts, plans.few_outs, c.requires.room, ap (λ (r : Replica). length (own_log r)) c.drop_met.ensures)

pub put_all-requires-2-clause-ready : goal.put_all-requires-2-clause-ready
put_all-requires-2-clause-ready c =
    let setup = c.args.setup.now in
    let old = c.args.self.now in
    let front : List LogItem = c.args.applied.now in
    let accepts : List LogItem = c.args.accepts.now in
    let outs : List LogItem = c.args.outs.now in
    let m = c.requires.splits.0 in
    let taken = c.requires.splits.1 in
    let heard : AtHeard setup m taken old c.hear.new.self front accepts outs =
    record { splits = c.requires.splits.4; ready = c.requires.ready; is = heard_so m old c.hear.new.self c.args.from c.args.cut.now c.requires.splits.2 c.requires.splits.3 c.hear.ensures } in
    ([], subst (HasRoomFor c.drop_met.new.self.store) (sym (append-nil outs)) (subst (λ (r : Replica). HasRoomFor r.store outs) (sym c.drop_met.ensures) (c.put_all.ensures.ready outs (c.learn.ensures.ready (accepts ++ outs) (subst (λ (r : Replica). HasRoomFor r.store (front ++ (accepts ++ outs))) (sym heard.is) c.requires.ready.room)))))

pub returns-clause-known : goal.returns-clause-known
returns-clause-known c =
    let setup = c.args.setup.now in
    let old = c.args.self.now in
    let front : List LogItem = c.args.applied.now in
    let accepts : List LogItem = c.args.accepts.now in
    let outs : List LogItem = c.args.outs.now in
    let m = c.requires.splits.0 in
    let taken = c.requires.splits.1 in
    let heard : AtHeard setup m taken old c.hear.new.self front accepts outs =
    record { splits = c.requires.splits.4; ready = c.requires.ready; is = heard_so m old c.hear.new.self c.args.from c.args.cut.now c.requires.splits.2 c.requires.splits.3 c.hear.ensures } in
    let learned : AtLearned setup m taken old c.hear.new.self c.learn.new.self front accepts outs = record { at = heard; own = c.learn.ensures.own; by = c.learn.ensures.learned } in
    let mid : AtMid setup m taken old c.hear.new.self c.learn.new.self c.put_all.new.self front accepts outs = record { at = learned; logged = c.put_all.ensures.logged; put = c.put_all.ensures.put } in
    let left : AtLeft setup m taken old c.hear.new.self c.learn.new.self c.put_all.new.self c.drop_met.new.self front accepts outs = record { at = mid; is = c.drop_met.ensures } in
    taken_known setup m taken old c.hear.new.self c.learn.new.self c.put_all.new.self c.drop_met.new.self c.put_all-2.new.self front accepts outs left c.put_all-2.ensures.logged

pub returns-clause-taken : goal.returns-clause-taken
returns-clause-taken c =
    let setup = c.args.setup.now in
    let old = c.args.self.now in
    let front : List LogItem = c.args.applied.now in
    let accepts : List LogItem = c.args.accepts.now in
    let outs : List LogItem = c.args.outs.now in
    λ m taken from cut splits.
    let heard : AtHeard setup m taken old c.hear.new.self front accepts outs = record { splits = splits; ready = c.requires.ready; is = heard_so m old c.hear.new.self c.args.from c.args.cut.now from cut c.hear.ensures } in
    let learned : AtLearned setup m taken old c.hear.new.self c.learn.new.self front accepts outs = record { at = heard; own = c.learn.ensures.own; by = c.learn.ensures.learned } in
    let mid : AtMid setup m taken old c.hear.new.self c.learn.new.self c.put_all.new.self front accepts outs = record { at = learned; logged = c.put_all.ensures.logged; put = c.put_all.ensures.put } in
    has_taken setup m taken old c.hear.new.self c.learn.new.self c.put_all.new.self c.drop_met.new.self c.put_all-2.new.self front accepts outs (record { at = mid; is = c.drop_met.ensures }) c.put_all-2.ensures.logged
