use Rattle.std.proofs.Common.{◌≡◌, map}
use Rattle.ground_clauses.specs.Cases.{class_count, upto_from}
use Rattle.ground_clauses.proofs.memory.list_counts.Given as goal

abbrev pub invariant-loop-sort : goal.invariant-loop-sort
invariant-loop-sort l = l.counts ≡ map (class_count l.sorts l.classes) (upto_from 0 l.sort)
