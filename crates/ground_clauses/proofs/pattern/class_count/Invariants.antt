use Rattle.std.proofs.Common.{◌≡◌, ◌≤◌, max, drop}
use Rattle.ground_clauses.specs.Cases.{class_count}
use Rattle.ground_clauses.proofs.pattern.class_count.Given as goal

abbrev pub invariant-loop-of : goal.invariant-loop-of
invariant-loop-of l = record {
  value : max l.count (class_count (drop l.of-index l.sorts) l.left l.sort) ≡ class_count l.sorts l.classes l.sort;
  fits : l.count ≤ 4294967296;
}
