use Rattle.std.proofs.Common.{rules, ◌≡◌, length, sym, ◌∙◌, subst, arith, refl, IfSome}
use Rattle.std.proofs.lemmas.List.Elements.{All-nil}
use Rattle.std.proofs.lemmas.Option.{slice_get_within, slice_get_read, same_Some}
use Rattle.turn_desk.specs.Passes.{IsPassOf}
use Rattle.desk_workers.specs.Places.{IsThere}
use Rattle.desk_workers.specs.Standing.{HasWorked, TakesBack, asks_in}
use Rattle.turn_desk.specs.Passes.{turns}
use Rattle.desk_workers.proofs.Gathering.{back_at, gathers_next, gathered, own_pass}
use Rattle.desk_workers.proofs.places.gather.Goals as goal

pub loop-done-init : goal.loop-done-init
loop-done-init g c =
    let items : c.into_iter-done-iterator.result.rest.items ≡ c.args.back = search rules in
    rw items (record { whole = refl; len = c.requires.len; there = All-nil IsThere; stand = c.requires.stand })

pub bounds-desks-place : goal.bounds-desks-place
bounds-desks-place g c =
    let at = back_at g.V.Turn.is_answer g.V.Turn.opening c.args.desks.now c.args.back c.loop-done.yielded c.loop-done.done-iterator.rest.items _ c.loop-done.slots c.in-Some.done c.in-Some-done.worked c.requires.back c.loop-done.invariant (c.in-Some.ensures.steps).0 c.in-Some-done.is in
    slice_get_within c.args.desks.now c.in-Some-done.worked.place at.0 at.1

pub bounds-slots-place : goal.bounds-slots-place
bounds-slots-place g c =
    let at = back_at g.V.Turn.is_answer g.V.Turn.opening c.args.desks.now c.args.back c.loop-done.yielded c.loop-done.done-iterator.rest.items _ c.loop-done.slots c.in-Some.done c.in-Some-done.worked c.requires.back c.loop-done.invariant (c.in-Some.ensures.steps).0 c.in-Some-done.is in
    omega (arith, slice_get_within c.args.desks.now c.in-Some-done.worked.place at.0 at.1, c.loop-done.invariant.len)

pub take_back-requires-clause-own : goal.take_back-requires-clause-own
take_back-requires-clause-own g c =
    let at = back_at g.V.Turn.is_answer g.V.Turn.opening c.args.desks.now c.args.back c.loop-done.yielded c.loop-done.done-iterator.rest.items _ c.loop-done.slots c.in-Some.done c.in-Some-done.worked c.requires.back c.loop-done.invariant (c.in-Some.ensures.steps).0 c.in-Some-done.is in
    let within = slice_get_within c.args.desks.now c.in-Some-done.worked.place at.0 at.1 in
    let desk_is = slice_get_read c.args.desks.now (length c.args.desks.now) c.in-Some-done.worked.place c.index-desks-place.result refl within c.index-desks-place.is in
    let slot_is = slice_get_read c.loop-done.slots (length c.loop-done.slots) c.in-Some-done.worked.place c.index-slots-place.result refl (omega (arith, within, c.loop-done.invariant.len)) c.index-slots-place.is in
    let same = same_Some at.0 c.index-desks-place.result (sym at.1 ∙ desk_is) in
    let stands = c.loop-done.invariant.stand c.in-Some-done.worked.place c.index-desks-place.result c.index-slots-place.result desk_is slot_is in (
      subst (λ desk. IsPassOf desk c.in-Some-done.worked.pass) same at.2.own,
      subst (λ slot. IfSome slot.pass (λ pass. IsPassOf c.index-desks-place.result pass)) c.index-slots-place.is
          (own_pass g.V.Turn.is_answer g.V.Turn.opening c.index-desks-place.result _ _ c.index-slots-place.result.pass stands),
    )

pub take_back-requires-clause-answers : goal.take_back-requires-clause-answers
take_back-requires-clause-answers g c =
    let at = back_at g.V.Turn.is_answer g.V.Turn.opening c.args.desks.now c.args.back c.loop-done.yielded c.loop-done.done-iterator.rest.items _ c.loop-done.slots c.in-Some.done c.in-Some-done.worked c.requires.back c.loop-done.invariant (c.in-Some.ensures.steps).0 c.in-Some-done.is in
    let within = slice_get_within c.args.desks.now c.in-Some-done.worked.place at.0 at.1 in
    let desk_is = slice_get_read c.args.desks.now (length c.args.desks.now) c.in-Some-done.worked.place c.index-desks-place.result refl within c.index-desks-place.is in
    let same = same_Some at.0 c.index-desks-place.result (sym at.1 ∙ desk_is) in
    (subst (λ desk. HasWorked g.V.Turn.is_answer g.V.Turn.opening desk (asks_in (turns c.in-Some-done.worked.pass)) c.in-Some-done.worked.pass) same at.2).answered

pub loop-done-preserved : goal.loop-done-preserved
loop-done-preserved g c =
    let at = back_at g.V.Turn.is_answer g.V.Turn.opening c.args.desks.now c.args.back c.loop-done.yielded c.loop-done.done-iterator.rest.items _ c.loop-done.slots c.in-Some.done c.in-Some-done.worked c.requires.back c.loop-done.invariant (c.in-Some.ensures.steps).0 c.in-Some-done.is in
    let within = slice_get_within c.args.desks.now c.in-Some-done.worked.place at.0 at.1 in
    let desk_is = slice_get_read c.args.desks.now (length c.args.desks.now) c.in-Some-done.worked.place c.index-desks-place.result refl within c.index-desks-place.is in
    let slot_is = slice_get_read c.loop-done.slots (length c.loop-done.slots) c.in-Some-done.worked.place c.index-slots-place.result refl (omega (arith, within, c.loop-done.invariant.len)) c.index-slots-place.is in
    gathers_next g.V.Turn.is_answer g.V.Turn.opening c.args.desks.now c.args.back c.loop-done.yielded c.loop-done.done-iterator.rest.items c.next.new.self.rest.items c.loop-done.slots c.in-Some.done c.in-Some-done.worked c.index-desks-place.result c.index-slots-place.result c.take_back.new.self
    c.requires.back c.loop-done.invariant (c.in-Some.ensures.steps).0 c.in-Some-done.is desk_is slot_is
    (subst (λ slot. TakesBack g.V.Turn.is_answer g.V.Turn.opening c.index-desks-place.result c.in-Some-done.worked.pass slot.pass c.take_back.new.self.pass) (sym c.index-slots-place.is) c.take_back.ensures.back)

pub returns-clause-there : goal.returns-clause-there
returns-clause-there g c =
    (gathered g.V.Turn.is_answer g.V.Turn.opening c.args.desks.now c.args.back c.loop-done.yielded c.loop-done.done-iterator.rest.items c.loop-done.slots c.loop-done.invariant (search rules)).0

pub returns-clause-stand : goal.returns-clause-stand
returns-clause-stand g c =
    (gathered g.V.Turn.is_answer g.V.Turn.opening c.args.desks.now c.args.back c.loop-done.yielded c.loop-done.done-iterator.rest.items c.loop-done.slots c.loop-done.invariant (search rules)).1
