use Rattle.std.proofs.Common.{[], List, ap, ◌∙◌, length, sym, subst, arith}
use Rattle.spec_model.specs.declared.log.LogItem.{LogItem}
use Rattle.run_model.specs.Logs.{with_all}
use Rattle.causal_store.specs.Stores.{HasRoomFor}
use Rattle.std.proofs.lemmas.List.{append-nil}
use Rattle.replica_core.specs.Replicas.{known_to}
use Rattle.replica_core.proofs.Doing.{logged_known}
use Rattle.replica_core.proofs.Replayed.{act_done, act_next}
use Rattle.replica_core.proofs.replica.Replica.commit_act.Goals as goal

pub put_all-requires-clause-next : goal.put_all-requires-clause-next
put_all-requires-clause-next c = (act_next c.args.setup.now c.args.self.now c.requires.decided.0 c.args.batch.now c.as_slice.result.now c.requires.own c.requires.decided.1 c.requires.decided.2 c.as_slice.ensures.value c.requires.ready).0

pub put_all-requires-clause-entries : goal.put_all-requires-clause-entries
put_all-requires-clause-entries c = (act_next c.args.setup.now c.args.self.now c.requires.decided.0 c.args.batch.now c.as_slice.result.now c.requires.own c.requires.decided.1 c.requires.decided.2 c.as_slice.ensures.value c.requires.ready).1

pub put_all-requires-clause-room : goal.put_all-requires-clause-room
put_all-requires-clause-room c = omega (arith, ap length (c.as_slice.ensures.value ∙ c.requires.decided.2.1), c.requires.room)

pub put_all-requires-clause-ready : goal.put_all-requires-clause-ready
put_all-requires-clause-ready c = ([], subst (HasRoomFor c.args.self.now.store) (sym c.as_slice.ensures.value ∙ sym (append-nil c.as_slice.result.now)) c.requires.ready.room)

pub returns-clause-known : goal.returns-clause-known
returns-clause-known c =
    let old = c.args.self.now in
    logged_known c.args.setup.now old.needs c.as_slice.result.now old c.put_all.new.self c.requires.own (act_next c.args.setup.now old c.requires.decided.0 c.args.batch.now c.as_slice.result.now c.requires.own c.requires.decided.1 c.requires.decided.2 c.as_slice.ensures.value c.requires.ready).0 c.put_all.ensures.logged
    ∙ ap (λ (l : List LogItem). with_all l (known_to old)) c.as_slice.ensures.value

pub returns-clause-answered : goal.returns-clause-answered
returns-clause-answered c = λ inst decides. act_done c.args.setup.now c.args.self.now c.put_all.new.self inst c.args.batch.now c.as_slice.result.now decides c.as_slice.ensures.value c.put_all.ensures.logged
