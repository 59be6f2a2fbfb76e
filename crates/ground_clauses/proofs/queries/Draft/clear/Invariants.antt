use Rattle.std.proofs.Common.{length}
use Rattle.ground_clauses.proofs.queries.Draft.clear.Given as goal

abbrev pub decreases-clearing : goal.decreases-clearing
decreases-clearing l = length l.self.cnf.clauses
