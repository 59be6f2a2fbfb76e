use Rattle.ground_clauses.proofs.Counts.{IsMade}
use Rattle.ground_clauses.proofs.counting.more_splits.Given as goal

abbrev pub invariant-loop-k : goal.invariant-loop-k
invariant-loop-k l = IsMade l.count l.k l.next
