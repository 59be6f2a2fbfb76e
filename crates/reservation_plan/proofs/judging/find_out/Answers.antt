use Rattle.std.proofs.Common.{arith}
use Rattle.reservation_plan.proofs.Conflicting.{found_model, found_refuted}
use Rattle.reservation_plan.proofs.judging.find_out.Goals as goal

pub returns-in-Ok-Model-clause-finding : goal.returns-in-Ok-Model-clause-finding
returns-in-Ok-Model-clause-finding c =
    found_model c.args.spec.now c.args.case.now c.args.case.now.target c.in-Ok-Model.field-0 c.in-Ok-Model.model c.in-Ok-Model.field-0-is c.in-Ok-Model.ensures.decision

pub returns-then-len-le-MOST_STEPS-clause-finding : goal.returns-then-len-le-MOST_STEPS-clause-finding
returns-then-len-le-MOST_STEPS-clause-finding c =
    found_refuted c.args.spec.now c.args.case.now c.in-Ok-Refuted.field-0 c.in-Ok-Refuted.derivation c.in-Ok-Refuted.field-0-is (omega (arith, c.if-len-le-MOST_STEPS.true, c.len.ensures.value)) c.in-Ok-Refuted.ensures.decision
