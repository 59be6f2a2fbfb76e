use Rattle.std.proofs.Common.{length}
use Rattle.std.specs.List.{AllByRecursion}
use Rattle.ground_clauses.specs.Conflicting.{IsTouchedCase}
use Rattle.call_tests.proofs.pairs.found.Given as goal

abbrev pub invariant-going : goal.invariant-going
invariant-going l = AllByRecursion (IsTouchedCase l.spec) l.left

abbrev pub decreases-going : goal.decreases-going
decreases-going l = length l.left
