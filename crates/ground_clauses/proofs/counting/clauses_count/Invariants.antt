use Rattle.std.proofs.Common.{◌≡◌, ◌+◌, ◌*◌, ◌^◌, ◌≤◌}
use Rattle.std.specs.List.{sum_by}
use Rattle.ground_clauses.proofs.Shapes.{clauses_from}
use Rattle.ground_clauses.specs.Cases.{clause_targets}
use Rattle.ground_clauses.specs.Counting.{shape_cases}
use Rattle.ground_clauses.proofs.counting.clauses_count.Given as goal

abbrev pub invariant-loop-place : goal.invariant-loop-place
invariant-loop-place l = record {
  sum : l.count + sum_by (shape_cases l.spec l.a l.b) (clauses_from l.spec l.place) ≡ sum_by (shape_cases l.spec l.a l.b) (clause_targets 0 l.spec.clauses);
  few : l.count ≤ l.place * 2 ^ 48;
}
