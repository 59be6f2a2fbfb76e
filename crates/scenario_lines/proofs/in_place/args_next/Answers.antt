use Rattle.scenario_lines.proofs.InPlaces.{list_empty, list_some}
use Rattle.scenario_lines.proofs.in_place.args_next.Goals as goal

pub returns-in-Some-mark_next : goal.returns-in-Some-mark_next
returns-in-Some-mark_next c = rw (c.truncate.ensures) (list_empty c.args.bytes.now c.in-Some.rest.now c.in-Some-mark_next.behind.now c.in-Some.ensures c.in-Some-mark_next.ensures)

pub returns : goal.returns
returns c = list_some c.items_next.new.args c.args.bytes.now c.in-Some.rest.now c.in-Some-2.behind.now c.in-Some.ensures (rw c.in-Some-2.is at c.in_ok-behind.ensures)
