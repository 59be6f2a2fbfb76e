use Rattle.scenario_lines.proofs.InPlaces.{number_read}
use Rattle.scenario_lines.proofs.in_place.number_in_place.Goals as goal

pub returns-then-none_next : goal.returns-then-none_next
returns-then-none_next c = number_read c.in_ok-n.n c.args.bytes.now c.in_ok-n.rest.now c.in_ok-n.ensures.next c.in_ok-n.ensures.small (c.none_next.ensures c.if-none_next.true)
