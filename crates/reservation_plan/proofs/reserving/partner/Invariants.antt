use Rattle.std.proofs.Common.{◌≡◌, ◌-◌, length}
use Rattle.certificate_check.specs.Separation.{lowest, lowest_from}
use Rattle.ground_clauses.specs.Cases.{upto_from}
use Rattle.reservation_plan.specs.Derived.{always_meets, params_of}
use Rattle.reservation_plan.proofs.reserving.partner.Given as goal

abbrev pub invariant-loop-second : goal.invariant-loop-second
invariant-loop-second l =
    lowest_from l.second (always_meets l.conflict.spec.now l.conflict.a l.conflict.b l.conflict.cases.now l.first) (upto_from l.second (length (params_of l.conflict.spec.now l.conflict.b) - l.second))
    ≡ lowest (always_meets l.conflict.spec.now l.conflict.a l.conflict.b l.conflict.cases.now l.first) (upto_from 0 (length (params_of l.conflict.spec.now l.conflict.b)))
