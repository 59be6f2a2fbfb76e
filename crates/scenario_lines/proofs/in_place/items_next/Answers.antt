use Rattle.scenario_lines.proofs.InPlaces.{read_more, read_last}
use Rattle.scenario_lines.proofs.in_place.items_next.Goals as goal

pub returns-in-Some-mark_next : goal.returns-in-Some-mark_next
returns-in-Some-mark_next c =
    rw (c.in_ok-push.ensures.ok) (read_last c.in-Some.arg c.loop-turn.args c.args.bytes.now c.loop-turn.rest.now c.in-Some.behind.now c.in-Some-mark_next.others.now c.loop-turn.invariant c.in-Some.ensures c.in-Some-mark_next.ensures)

pub loop-turn-preserved : goal.loop-turn-preserved
loop-turn-preserved c =
    rw (c.in_ok-push.ensures.ok) (read_more c.in-Some.arg c.loop-turn.args c.args.bytes.now c.loop-turn.rest.now c.in-Some.behind.now c.in-Some-mark_next-2.others.now c.loop-turn.invariant c.in-Some.ensures c.in-Some-mark_next-2.ensures)
