use Rattle.std.proofs.Common.{rules, ◌≡◌, length, sym, ◌∙◌, subst, refl}
use Rattle.std.proofs.lemmas.Option.{slice_get_read, same_Some, none-some}
use Rattle.turn_desk.specs.Passes.{IsPassOf, parts_of, all_parts}
use Rattle.desk_workers.proofs.Closing.{closing_at, whole_at, closes_next, all_closed}
use Rattle.desk_workers.proofs.places.close_all.Goals as goal

pub close-requires-clause-own : goal.close-requires-clause-own
close-requires-clause-own g c =
    let history = g.V.Turn.history in let opening = g.V.Turn.opening in let next = (c.in-Some.ensures.steps).0 in
    let at = closing_at history opening c.args.desks.items c.loop-desk.yielded c.loop-desk.desk-iterator.rest.items _ c.args.slots.items c.loop-desk.slots.items c.loop-desk.values c.loop-desk.at c.in-Some.desk c.loop-desk.invariant next in
    let slot_is = slice_get_read c.loop-desk.slots.items (length c.loop-desk.slots.items) c.loop-desk.at c.index_mut.result.now refl at.1 c.index_mut.ensures.value in
    let whole = whole_at history opening c.args.desks.items c.loop-desk.yielded c.loop-desk.desk-iterator.rest.items _ c.args.slots.items c.loop-desk.slots.items c.loop-desk.values c.loop-desk.at c.in-Some.desk c.index_mut.result.now c.loop-desk.invariant next slot_is c.requires.whole in
    let same = same_Some whole.1.0 c.in-Some-take.pass (sym whole.1.1 ∙ (sym c.take.ensures.value ∙ c.in-Some-take.is)) in
    subst (λ pass. IsPassOf c.in-Some.desk pass) same whole.1.2

pub close-requires-clause-all : goal.close-requires-clause-all
close-requires-clause-all g c =
    let history = g.V.Turn.history in let opening = g.V.Turn.opening in let next = (c.in-Some.ensures.steps).0 in
    let at = closing_at history opening c.args.desks.items c.loop-desk.yielded c.loop-desk.desk-iterator.rest.items _ c.args.slots.items c.loop-desk.slots.items c.loop-desk.values c.loop-desk.at c.in-Some.desk c.loop-desk.invariant next in
    let slot_is = slice_get_read c.loop-desk.slots.items (length c.loop-desk.slots.items) c.loop-desk.at c.index_mut.result.now refl at.1 c.index_mut.ensures.value in
    let whole = whole_at history opening c.args.desks.items c.loop-desk.yielded c.loop-desk.desk-iterator.rest.items _ c.args.slots.items c.loop-desk.slots.items c.loop-desk.values c.loop-desk.at c.in-Some.desk c.index_mut.result.now c.loop-desk.invariant next slot_is c.requires.whole in
    let same = same_Some whole.1.0 c.in-Some-take.pass (sym whole.1.1 ∙ (sym c.take.ensures.value ∙ c.in-Some-take.is)) in
    subst (λ pass. parts_of pass ≡ all_parts c.in-Some.desk) same whole.1.3

pub unreachable-requires : goal.unreachable-requires
unreachable-requires g c =
    let history = g.V.Turn.history in let opening = g.V.Turn.opening in let next = (c.in-Some.ensures.steps).0 in
    let at = closing_at history opening c.args.desks.items c.loop-desk.yielded c.loop-desk.desk-iterator.rest.items _ c.args.slots.items c.loop-desk.slots.items c.loop-desk.values c.loop-desk.at c.in-Some.desk c.loop-desk.invariant next in
    let slot_is = slice_get_read c.loop-desk.slots.items (length c.loop-desk.slots.items) c.loop-desk.at c.index_mut.result.now refl at.1 c.index_mut.ensures.value in
    let whole = whole_at history opening c.args.desks.items c.loop-desk.yielded c.loop-desk.desk-iterator.rest.items _ c.args.slots.items c.loop-desk.slots.items c.loop-desk.values c.loop-desk.at c.in-Some.desk c.index_mut.result.now c.loop-desk.invariant next slot_is c.requires.whole in
    none-some whole.1.0 (sym (sym c.take.ensures.value ∙ c.in-None-take.is) ∙ whole.1.1)

pub loop-desk-preserved : goal.loop-desk-preserved
loop-desk-preserved g c =
    let history = g.V.Turn.history in let opening = g.V.Turn.opening in let next = (c.in-Some.ensures.steps).0 in
    let at = closing_at history opening c.args.desks.items c.loop-desk.yielded c.loop-desk.desk-iterator.rest.items _ c.args.slots.items c.loop-desk.slots.items c.loop-desk.values c.loop-desk.at c.in-Some.desk c.loop-desk.invariant next in
    let slot_is = slice_get_read c.loop-desk.slots.items (length c.loop-desk.slots.items) c.loop-desk.at c.index_mut.result.now refl at.1 c.index_mut.ensures.value in
    let whole = whole_at history opening c.args.desks.items c.loop-desk.yielded c.loop-desk.desk-iterator.rest.items _ c.args.slots.items c.loop-desk.slots.items c.loop-desk.values c.loop-desk.at c.in-Some.desk c.index_mut.result.now c.loop-desk.invariant next slot_is c.requires.whole in
    closes_next history opening c.args.desks.items c.loop-desk.yielded c.loop-desk.desk-iterator.rest.items _ c.args.slots.items c.loop-desk.slots.items c.loop-desk.values _ c.loop-desk.at c.in-Some.desk c.index_mut.result.now _ c.in-Some-take.pass c.close.result
    c.loop-desk.invariant next whole.0 (sym c.take.ensures.value ∙ c.in-Some-take.is) c.close.ensures.opening c.close.ensures.history (search rules)

pub returns-clause-values : goal.returns-clause-values
returns-clause-values g c =
    all_closed g.V.Turn.history g.V.Turn.opening c.args.desks.items c.loop-desk.yielded c.loop-desk.desk-iterator.rest.items c.args.slots.items c.loop-desk.slots.items c.loop-desk.values c.loop-desk.at c.loop-desk.invariant (search rules)
