use Rattle.std.proofs.Common.{◌≡◌, ◌+◌, ◌-◌, ◌*◌, ◌^◌, ◌≤◌, length}
use Rattle.std.specs.List.{sum_by}
use Rattle.ground_clauses.specs.Cases.{upto_from}
use Rattle.ground_clauses.specs.Counting as counting
use Rattle.ground_clauses.proofs.counting.case_count.Given as goal

abbrev pub invariant-loop-a : goal.invariant-loop-a
invariant-loop-a l = record {
  sum : l.count + sum_by (counting.row_count l.spec) (upto_from l.a (length l.spec.ops - l.a)) ≡ counting.case_count l.spec;
  few : l.count ≤ l.a * 2 ^ 61;
}
