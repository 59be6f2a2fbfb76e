use Rattle.std.proofs.Common.{◌≡◌}
use Rattle.ground_clauses.specs.Counting.{product_below, sort_cases}
use Rattle.ground_clauses.proofs.counting.shape_count.Given as goal

abbrev pub invariant-loop-sort : goal.invariant-loop-sort
invariant-loop-sort l = l.count ≡ product_below (sort_cases l.spec l.a l.b l.fn.target) l.sort
