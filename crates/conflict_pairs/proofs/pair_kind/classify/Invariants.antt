use Rattle.std.proofs.Common.{◌≡◌, length}
use Rattle.ground_clauses.specs.Cases.{pair_cases}
use Rattle.conflict_pairs.proofs.Passing.{IsPassing}
use Rattle.conflict_pairs.proofs.pair_kind.classify.Given as goal

abbrev pub invariant-going : goal.invariant-going
invariant-going l = record {
  passing : IsPassing l.spec (pair_cases l.spec l.a l.b) l.opposing l.left;
  over : l.queries.over ≡ l.spec;
}

abbrev pub decreases-going : goal.decreases-going
decreases-going l = length l.left
