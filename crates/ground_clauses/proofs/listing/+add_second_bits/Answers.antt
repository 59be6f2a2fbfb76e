use Rattle.std.proofs.Common.{arith}
use Rattle.ground_clauses.proofs.Listed.{second_touched}
use Rattle.ground_clauses.proofs.listing.+add_second_bits.Goals as goal

pub returns : goal.returns
returns t c =
    second_touched c.args.spec.now c.args.case.now c.args.class c.args.count c.weight.result c.args.found.now c.add_second_bits.new.found c.add_second_bits-2.new.found
    (omega (arith, c.if-count-eq0.false)) c.weight.ensures.value c.in_ok-add_second_bits.ensures c.in_ok-add_second_bits-2.ensures
