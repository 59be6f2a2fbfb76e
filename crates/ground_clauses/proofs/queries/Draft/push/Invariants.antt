use Rattle.std.proofs.Common.{◌≡◌, ◌++◌, map, drop}
use Rattle.ground_clauses.specs.Rows.{lit_of}
use Rattle.ground_clauses.proofs.queries.Draft.push.Given as goal

abbrev pub invariant-loop-known : goal.invariant-loop-known
invariant-loop-known l = record {
  value : l.clause ++ map lit_of (drop l.known-index l.lits) ≡ map lit_of l.lits;
  same : l.self.cnf.clauses ≡ l.fn.self.cnf.clauses;
}
