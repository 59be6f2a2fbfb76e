use Rattle.std.proofs.Common.{arith, sym, ◌∙◌}
use Rattle.ground_clauses.proofs.Fronts.{idle_listed}
use Rattle.ground_clauses.proofs.Listed.{first_touched}
use Rattle.ground_clauses.proofs.listing.+add_first_bits.Goals as goal

pub returns : goal.returns
returns t c =
    first_touched c.args.spec.now c.args.case.now c.args.class c.args.count c.args.second c.weight.result c.args.found.now c.add_first_bits.new.found c.add_first_bits-2.new.found
    (omega (arith, c.if-count-eq0.false)) c.weight.ensures.value c.in_ok-add_first_bits.ensures c.in_ok-add_first_bits-2.ensures

pub returns-else-has_front : goal.returns-else-has_front
returns-else-has_front t c =
    idle_listed c.args.spec.now c.args.case.now c.args.class c.args.count c.args.second c.args.found.now (omega (arith, c.if-count-eq0.true)) (sym c.has_front.ensures ∙ c.if-has_front.false)
