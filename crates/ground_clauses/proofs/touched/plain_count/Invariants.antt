use Rattle.std.proofs.Common.{◌≡◌, ◌+◌, ◌≤◌, length, drop}
use Rattle.ground_clauses.specs.Cases.{plain_sorts}
use Rattle.ground_clauses.proofs.touched.plain_count.Given as goal

abbrev pub invariant-loop-param : goal.invariant-loop-param
invariant-loop-param l = (l.count + length (plain_sorts (drop l.param-index l.params)) ≡ length (plain_sorts l.params)) × (l.count ≤ l.param-index)
