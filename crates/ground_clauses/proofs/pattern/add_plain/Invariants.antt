use Rattle.std.proofs.Common.{◌≡◌, ◌+◌, ◌≤◌, ◌++◌, length, drop}
use Rattle.ground_clauses.specs.Cases.{plain_sorts}
use Rattle.ground_clauses.proofs.pattern.add_plain.Given as goal

abbrev pub invariant-loop-param : goal.invariant-loop-param
invariant-loop-param l = record {
  value : l.sorts ++ plain_sorts (drop l.param-index l.params) ≡ l.fn.sorts ++ plain_sorts l.params;
  room : length l.sorts + length (plain_sorts (drop l.param-index l.params)) ≤ 12;
}
