use Rattle.std.proofs.Common.{◌<◌, refl, subst, sym}
use Rattle.std.specs.Prelude.{All}
use Rattle.std.specs.List.{AllByRecursion}
use Rattle.spec_model.specs.declared.log.LogItem.{LogItem}
use Rattle.effect_model.proofs.Sizes.{all_at}
use Rattle.run_model.specs.Fitting.{BodyFits}
use Rattle.replica_core.specs.Replicas.{known_to, own_log}
use Rattle.replica_core.proofs.Replayed.{decided_fits, decided_origins, on_ok_then, ready_for, stays_same}
use Rattle.replica_core.proofs.replica.Replica.ready.Goals as goal

pub needs_of-requires-clause-fits : goal.needs_of-requires-clause-fits
needs_of-requires-clause-fits c =
    subst (AllByRecursion (λ (i : LogItem). BodyFits c.args.setup.now i.body)) (sym c.as_slice-items.ensures.value) (decided_fits c.args.setup.now c.args.self.now c.args.batch.now c.requires.own c.requires.decided)

pub ready-requires : goal.ready-requires
ready-requires c =
    let old = c.args.self.now in
    let here = λ (i : LogItem). i.origin < c.args.setup.now.replicas in
    subst (λ n. All (λ (i : LogItem). i.origin < n) c.as_slice-items.result.now) (sym c.requires.own.store.whole)
    (subst (All here) (sym c.as_slice-items.ensures.value) (λ k d lt. all_at here c.args.batch.now.items k d (decided_origins c.args.setup.now old c.args.batch.now c.requires.own c.requires.decided) lt))

pub returns-in_err-ready-clause-same : goal.returns-in_err-ready-clause-same
returns-in_err-ready-clause-same c = stays_same c.args.setup.now c.args.self.now _ c.requires.own (c.ready.ensures.own c.args.setup.now.spec c.args.setup.now.replicas c.requires.own.store) refl c.ready.ensures.logs c.ready.ensures.cut c.requires.own.all

pub ready-requires-2-clause-items : goal.ready-requires-2-clause-items
ready-requires-2-clause-items c =
    subst (AllByRecursion (λ (i : LogItem). BodyFits c.args.setup.now i.body)) (sym c.as_slice-items.ensures.value) (decided_fits c.args.setup.now c.args.self.now c.args.batch.now c.requires.own c.requires.decided)

pub returns-clause-same : goal.returns-clause-same
returns-clause-same c =
    let old = c.args.self.now in
    stays_same c.args.setup.now old _ c.requires.own (c.ready.ensures.own c.args.setup.now.spec c.args.setup.now.replicas c.requires.own.store) refl c.ready.ensures.logs c.ready.ensures.cut (c.ready-2.ensures.all (known_to old) old.me (own_log old) c.requires.own.all)

pub returns-clause-ready : goal.returns-clause-ready
returns-clause-ready c =
    let setup = c.args.setup.now in
    let old = c.args.self.now in
    let same = stays_same setup old (record old { store = c.ready.new.self; table = c.ready-2.new.self; needs = c.in_ok-self.field-0 }) c.requires.own (c.ready.ensures.own c.args.setup.now.spec c.args.setup.now.replicas c.requires.own.store) refl c.ready.ensures.logs c.ready.ensures.cut (c.ready-2.ensures.all (known_to old) old.me (own_log old) c.requires.own.all) in
    on_ok_then c.ready-2.result c.ready-2.ensures.ready
    (ready_for setup old c.args.batch.now c.ready.new.self c.ready-2.new.self c.in_ok-self.field-0 c.as_slice.result.now c.as_slice-items.result.now c.requires.own c.requires.decided same.view c.as_slice-items.ensures.value c.in_ok-ready.ensures.room c.in_ok-self.ensures.fit c.in_ok-self.ensures.value c.as_slice.ensures.value)
