use Rattle.std.proofs.Common.{◌++◌, ◌∷◌, [], refl, sym, ap, subst, ◌∙◌}
use Rattle.std.specs.Prelude.{slice_set}
use Rattle.spec_model.specs.declared.log.LogItem.{LogItem}
use Rattle.rights_table.specs.Tables.{KeepsEntries}
use Rattle.rights_table.specs.Whole.{HasAll}
use Rattle.replica_core.specs.Replicas.{HasLogged, known_to, own_log}
use Rattle.replica_core.specs.declared.replica.Replica.{Replica}
use Rattle.replica_core.proofs.Logged.{logs_one}
use Rattle.replica_core.proofs.Needed.{store_whole}
use Rattle.replica_core.proofs.Next.{along_known, may_own_with}
use Rattle.replica_core.specs.Replicas.{standing_of}
use Rattle.replica_core.proofs.replica.Replica.put.Goals as goal

pub own-requires-clause-may : goal.own-requires-clause-may
own-requires-clause-may c =
    let r = c.args.self.now in
    (known_to r, r.me, own_log r, c.args.item.now, refl, c.requires.own.all, may_own_with c.needs_fit.ensures c.args.setup.now r c.args.item.now c.accepted-of.result c.as_slice.result.now c.requires.own c.requires.next c.requires.room c.accepted-of.ensures c.as_slice.ensures.value)

pub append-requires-clause-store : goal.append-requires-clause-store
append-requires-clause-store c = store_whole c.args.setup.now c.args.self.now c.requires.own

pub returns-clause-logged : goal.returns-clause-logged
returns-clause-logged c =
    let setup = c.args.setup.now in
    let r = c.args.self.now in
    let item = c.args.item.now in
    let next = c.requires.next in
    let all = c.own.ensures.owned (known_to r) r.me (own_log r) item refl c.requires.own.all (may_own_with c.needs_fit.ensures setup r item c.accepted-of.result c.as_slice.result.now c.requires.own next c.requires.room c.accepted-of.ensures c.as_slice.ensures.value) in
    subst (HasLogged setup item.body r) (sym c.append.ensures.kept) (logs_one setup item.body r c.append.new.self.store c.own.new.self (record {
      learn = c.tables_learn.ensures;
      own = c.requires.own;
      logs = c.append.ensures.logs ∙ ap (λ (i : LogItem). slice_set (known_to r) r.me (own_log r ++ i ∷ [])) next.is;
      store = c.append.ensures.store;
      known = along_known setup (known_to r) r.me r.needs (standing_of 0 [] [] r) item.body next.along;
      fits = next.fits;
      room = c.requires.room;
      all = subst (λ (i : LogItem). HasAll setup (known_to r) r.me (own_log r ++ i ∷ []) c.own.new.self) next.is all;
    }))

pub returns-clause-put : goal.returns-clause-put
returns-clause-put c = record {
  needs = ap (λ (r : Replica). r.needs) c.append.ensures.kept;
  kept = subst (λ (r : Replica). KeepsEntries c.args.self.now.table r.table) (sym c.append.ensures.kept) c.own.ensures.kept;
}
