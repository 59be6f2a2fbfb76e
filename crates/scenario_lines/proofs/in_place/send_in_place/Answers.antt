use Rattle.scenario_lines.proofs.InPlaces.{send_read}
use Rattle.scenario_lines.proofs.in_place.send_in_place.Goals as goal

pub returns-then-none_next : goal.returns-then-none_next
returns-then-none_next c =
    send_read c.in_ok-replica.replica c.in_ok-peer.peer c.args.bytes.now c.in_ok-replica.rest.now c.in_ok-peer.rest.now
    c.in_ok-replica.ensures.next c.in_ok-replica.ensures.small c.in_ok-peer.ensures.next c.in_ok-peer.ensures.small (c.none_next.ensures c.if-none_next.true)
