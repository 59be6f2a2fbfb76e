use Rattle.std.proofs.Common.{rules, ◌≡◌, ◌+◌, ◌<◌, ◌≤◌, length, sym, ◌∙◌, ap, subst, arith, refl, slice_get, Some, All, map}
use Rattle.std.proofs.lemmas.List.Elements.{All-push}
use Rattle.std.proofs.lemmas.Option.{slice_get_read}
use Rattle.std.proofs.lemmas.List.{map-append}
use Rattle.desk_workers.specs.Places.{Each, FreshAt}
use Rattle.desk_workers.specs.Standing.{MayWork, IsFresh}
use Rattle.desk_workers.specs.Workers.{asks_at}
use Rattle.desk_workers.proofs.Assigning.{assigns_at, has_parts, assigns_next, assigns_none, busy_more, busy_same}
use Rattle.desk_workers.proofs.Eachs.{yielded_all}
use Rattle.desk_workers.proofs.places.assign.Goals as goal

pub overflow_cast-parts : goal.overflow_cast-parts
overflow_cast-parts g c =
    let at = assigns_at g.V.Turn.fits g.V.Turn.opening c.args.workers c.loop-worker.yielded c.loop-worker.worker-iterator.rest.items _ c.args.desks.now c.loop-worker.slots c.in-Some.worker c.loop-worker.invariant.0 (c.in-Some.ensures.steps).0 c.requires.places c.requires.fit c.requires.few in
    omega (arith, at.2, c.len-parts.ensures.value)

pub give-pass-requires-clause-fresh : goal.give-pass-requires-clause-fresh
give-pass-requires-clause-fresh g c =
    let at = assigns_at g.V.Turn.fits g.V.Turn.opening c.args.workers c.loop-worker.yielded c.loop-worker.worker-iterator.rest.items _ c.args.desks.now c.loop-worker.slots c.in-Some.worker c.loop-worker.invariant.0 (c.in-Some.ensures.steps).0 c.requires.places c.requires.fit c.requires.few in
    let desk_is = slice_get_read c.args.desks.now (length c.args.desks.now) c.in-Some.worker.desk c.index-desks-place.result refl at.0 c.index-desks-place.is in
    let slot_is = slice_get_read c.loop-worker.slots (length c.loop-worker.slots) c.in-Some.worker.desk c.index-slots-place.result refl (omega (arith, at.0, c.loop-worker.invariant.0.len)) c.index-slots-place.is in
    let h = has_parts c.args.workers c.loop-worker.yielded c.loop-worker.worker-iterator.rest.items _ c.args.desks.now c.loop-worker.slots c.in-Some.worker c.index-desks-place.result c.index-slots-place.result c.loop-worker.invariant.0 (c.in-Some.ensures.steps).0 desk_is slot_is in
    subst (λ slot. IsFresh c.index-desks-place.result slot) c.index-slots-place.is h.0

pub give-pass-requires-clause-parts : goal.give-pass-requires-clause-parts
give-pass-requires-clause-parts g c =
    let at = assigns_at g.V.Turn.fits g.V.Turn.opening c.args.workers c.loop-worker.yielded c.loop-worker.worker-iterator.rest.items _ c.args.desks.now c.loop-worker.slots c.in-Some.worker c.loop-worker.invariant.0 (c.in-Some.ensures.steps).0 c.requires.places c.requires.fit c.requires.few in
    let desk_is = slice_get_read c.args.desks.now (length c.args.desks.now) c.in-Some.worker.desk c.index-desks-place.result refl at.0 c.index-desks-place.is in
    let slot_is = slice_get_read c.loop-worker.slots (length c.loop-worker.slots) c.in-Some.worker.desk c.index-slots-place.result refl (omega (arith, at.0, c.loop-worker.invariant.0.len)) c.index-slots-place.is in
    let h = has_parts c.args.workers c.loop-worker.yielded c.loop-worker.worker-iterator.rest.items _ c.args.desks.now c.loop-worker.slots c.in-Some.worker c.index-desks-place.result c.index-slots-place.result c.loop-worker.invariant.0 (c.in-Some.ensures.steps).0 desk_is slot_is in
    subst (λ slot. (0 < c.len-parts.result) × (c.len-parts.result ≤ slot.parts)) c.index-slots-place.is (search rules, omega (arith, h.1, c.len-parts.ensures.value))

pub loop-worker-preserved-in-Continue-1 : goal.loop-worker-preserved-in-Continue-1
loop-worker-preserved-in-Continue-1 g c =
    let at = assigns_at g.V.Turn.fits g.V.Turn.opening c.args.workers c.loop-worker.yielded c.loop-worker.worker-iterator.rest.items _ c.args.desks.now c.loop-worker.slots c.in-Some.worker c.loop-worker.invariant.0 (c.in-Some.ensures.steps).0 c.requires.places c.requires.fit c.requires.few in
    let desk_is = slice_get_read c.args.desks.now (length c.args.desks.now) c.in-Some.worker.desk c.index-desks-place.result refl at.0 c.index-desks-place.is in
    let slot_is = slice_get_read c.loop-worker.slots (length c.loop-worker.slots) c.in-Some.worker.desk c.index-slots-place.result refl (omega (arith, at.0, c.loop-worker.invariant.0.len)) c.index-slots-place.is in
    let any : 0 < length c.in-Some.worker.asks = search rules in
    let gave = c.give-pass.ensures in
    let left : c.give-pass.new.self.parts + length c.in-Some.worker.asks ≡ c.index-slots-place.result.parts = omega (arith, gave.left, c.len-parts.ensures.value, ap (λ slot. slot.parts) c.index-slots-place.is) in
    let pushed = c.in_ok-push.ensures.ok in (
      assigns_next c.args.workers c.loop-worker.yielded c.loop-worker.worker-iterator.rest.items _ c.args.desks.now c.loop-worker.slots c.in-Some.worker c.index-desks-place.result c.index-slots-place.result c.give-pass.new.self c.loop-worker.invariant.0 (c.in-Some.ensures.steps).0 desk_is slot_is gave.fresh left,
      subst (λ jobs. All (λ job. MayWork g.V.Turn.fits g.V.Turn.opening job.desk.now job.asks job.pass) jobs) (sym pushed)
          (All-push (λ job. MayWork g.V.Turn.fits g.V.Turn.opening job.desk.now job.asks job.pass) c.loop-worker.jobs _ c.loop-worker.invariant.1
          (record { own = gave.own; parts = (gave.parts.0 ∙ c.len-parts.ensures.value, at.2); fresh = gave.parts.1; fit = at.1 c.index-desks-place.result desk_is })),
      subst (λ jobs. All (λ job. slice_get c.args.desks.now job.place ≡ Some job.desk.now) jobs) (sym pushed)
          (All-push (λ job. slice_get c.args.desks.now job.place ≡ Some job.desk.now) c.loop-worker.jobs _ c.loop-worker.invariant.2 desk_is),
      ap (λ jobs. map (λ job. (job.place, job.asks)) jobs) pushed ∙ (map-append (λ job. (job.place, job.asks)) c.loop-worker.jobs _ ∙ busy_more c.loop-worker.yielded c.in-Some.worker _ c.loop-worker.invariant.3 any),
    )

pub loop-worker-preserved : goal.loop-worker-preserved
loop-worker-preserved g c =
    let none : length c.in-Some.worker.asks ≡ 0 = search rules in (
      assigns_none c.args.workers c.loop-worker.yielded c.loop-worker.worker-iterator.rest.items _ c.args.desks.now c.loop-worker.slots c.in-Some.worker c.loop-worker.invariant.0 (c.in-Some.ensures.steps).0 none,
      c.loop-worker.invariant.1,
      c.loop-worker.invariant.2,
      busy_same c.loop-worker.yielded c.in-Some.worker _ c.loop-worker.invariant.3 none,
    )

pub returns-clause-given : goal.returns-clause-given
returns-clause-given g c =
    let all : c.loop-worker.yielded ≡ c.args.workers = yielded_all c.args.workers c.loop-worker.yielded c.loop-worker.worker-iterator.rest.items c.loop-worker.invariant.0.whole (search rules) in
    subst (λ ws. Each (λ at desk slot. FreshAt (asks_at at c.args.workers) (asks_at at ws) desk slot) c.args.desks.now c.loop-worker.slots) all c.loop-worker.invariant.0.given
