use Rattle.std.proofs.Common.{◌≡◌, ◌++◌, drop}
use Rattle.ground_clauses.specs.Query.{dedup, dedup_after}
use Rattle.ground_clauses.specs.ThreeStates.{same_number}
use Rattle.ground_clauses.proofs.queries.Draft.push_once.Given as goal

abbrev pub invariant-loop-lit : goal.invariant-loop-lit
invariant-loop-lit l = record {
  value : l.clause ++ dedup_after same_number l.clause (drop l.lit-index l.lits) ≡ dedup same_number l.lits;
  same : l.self.cnf.clauses ≡ l.fn.self.cnf.clauses;
}
