use Rattle.std.proofs.Common.{arith}
use Rattle.desk_workers.proofs.Opening.{opens_next, has_room}
use Rattle.desk_workers.proofs.places.open_all.Goals as goal

pub count_asks-requires : goal.count_asks-requires
count_asks-requires g c =
    (has_room g.V.Turn.opening g.V.Turn.room c.args.workers.now c.args.values c.loop-value.yielded c.loop-value.value-iterator.rest.items _ c.in-Some.value c.loop-value.desks.items c.loop-value.slots.items c.loop-value.at c.requires.room c.loop-value.invariant (c.in-Some.ensures.steps).0).2

pub begin-requires-clause-room : goal.begin-requires-clause-room
begin-requires-clause-room g c =
    let has = has_room g.V.Turn.opening g.V.Turn.room c.args.workers.now c.args.values c.loop-value.yielded c.loop-value.value-iterator.rest.items _ c.in-Some.value c.loop-value.desks.items c.loop-value.slots.items c.loop-value.at c.requires.room c.loop-value.invariant (c.in-Some.ensures.steps).0 in
    (has.0, omega (arith, has.1, c.count_asks.ensures))

pub loop-value-preserved : goal.loop-value-preserved
loop-value-preserved g c =
    let made = c.in_ok-desk.ensures in
    opens_next g.V.Turn.opening c.args.workers.now c.args.values c.loop-value.yielded c.loop-value.value-iterator.rest.items _ c.in-Some.value c.loop-value.desks.items c.loop-value.slots.items c.in_ok-desk.desk c.in_ok-desk.slot c.loop-value.at
    c.loop-value.invariant (c.in-Some.ensures.steps).0 made.opening made.fresh made.parts.0 (omega (arith, made.parts.1, c.count_asks.ensures), made.parts.2) _ _ c.in_ok-push.ensures.items c.in_ok-push-2.ensures.items
