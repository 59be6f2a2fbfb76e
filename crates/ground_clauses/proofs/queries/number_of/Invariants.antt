use Rattle.std.proofs.Common.{◌≡◌, ◌+◌, drop}
use Rattle.ground_clauses.specs.Query.{index_of, same_variable}
use Rattle.ground_clauses.proofs.queries.number_of.Given as goal

abbrev pub invariant-loop-other : goal.invariant-loop-other
invariant-loop-other l = record {
  value : l.place + index_of (same_variable l.variable) (drop l.other-index l.variables) ≡ index_of (same_variable l.variable) l.variables;
  place : l.place ≡ l.other-index;
}
