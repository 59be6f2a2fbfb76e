use Rattle.std.proofs.Common.{◌≡◌, ◌-◌, ◌++◌, length}
use Rattle.std.specs.List.{flat_map}
use Rattle.ground_clauses.specs.Cases.{upto_from}
use Rattle.reservation_plan.specs.Derived as derived
use Rattle.reservation_plan.proofs.planning.pairs_of.Given as goal

abbrev pub invariant-loop-a : goal.invariant-loop-a
invariant-loop-a l = l.pairs ++ flat_map (derived.row_pairs l.spec) (upto_from l.a (length l.spec.ops - l.a)) ≡ derived.pairs_of l.spec
