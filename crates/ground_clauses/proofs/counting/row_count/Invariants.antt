use Rattle.std.proofs.Common.{◌≡◌, ◌+◌, ◌-◌, ◌*◌, ◌^◌, ◌≤◌, length}
use Rattle.std.specs.List.{sum_by}
use Rattle.ground_clauses.specs.Cases.{upto_from}
use Rattle.ground_clauses.specs.Counting as counting
use Rattle.ground_clauses.proofs.counting.row_count.Given as goal

abbrev pub invariant-loop-b : goal.invariant-loop-b
invariant-loop-b l = record {
  sum : l.count + sum_by (counting.pair_count l.spec l.a) (upto_from l.b (length l.spec.ops - l.b)) ≡ counting.row_count l.spec l.a;
  few : l.count ≤ l.b * 2 ^ 55;
}
