use Rattle.std.proofs.Common.{◌≡◌, ◌-◌, ◌++◌, length, map}
use Rattle.ground_clauses.specs.Cases.{upto_from}
use Rattle.reservation_plan.specs.Derived.{pair_of, row_pairs}
use Rattle.reservation_plan.proofs.planning.add_row.Given as goal

abbrev pub invariant-loop-b : goal.invariant-loop-b
invariant-loop-b l = l.pairs ++ map (pair_of l.a) (upto_from l.b (length l.spec.ops - l.b)) ≡ l.fn.pairs ++ row_pairs l.spec l.a
