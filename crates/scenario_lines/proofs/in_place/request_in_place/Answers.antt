use Rattle.scenario_lines.proofs.InPlaces.{request_read}
use Rattle.scenario_lines.proofs.in_place.request_in_place.Goals as goal

pub returns-then-none_next : goal.returns-then-none_next
returns-then-none_next c =
    request_read c.in-Some.n c.in-Some-word_next.op.now c.args_next.new.args c.args.bytes.now c.in-Some.rest.now c.in-Some-word_next.rest.now c.in-Some-2.rest.now
    c.in-Some.ensures.next c.in-Some.ensures.small c.in-Some-word_next.ensures (rw c.in-Some-2.is at c.in_ok-rest.ensures) (c.none_next.ensures c.if-none_next.true)
