use Rattle.std.proofs.Common.{◌≡◌, ◌-◌, ◌++◌, length}
use Rattle.std.specs.List.{flat_map}
use Rattle.ground_clauses.specs.Cases.{upto_from}
use Rattle.reservation_plan.specs.Derived.{key_at, params_of}
use Rattle.reservation_plan.specs.Derived as derived
use Rattle.reservation_plan.proofs.reserving.key_of.Given as goal

abbrev pub invariant-loop-first : goal.invariant-loop-first
invariant-loop-first l =
    l.key ++ flat_map (key_at l.conflict.spec.now l.conflict.a l.conflict.b l.conflict.cases.now) (upto_from l.first (length (params_of l.conflict.spec.now l.conflict.a) - l.first))
    ≡ derived.key_of l.conflict.spec.now l.conflict.a l.conflict.b l.conflict.cases.now
