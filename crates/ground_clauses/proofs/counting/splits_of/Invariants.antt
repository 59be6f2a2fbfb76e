use Rattle.ground_clauses.specs.Counting.{IsSplits}
use Rattle.ground_clauses.proofs.counting.splits_of.Given as goal

abbrev pub invariant-loop-things : goal.invariant-loop-things
invariant-loop-things l = IsSplits l.things l.row
