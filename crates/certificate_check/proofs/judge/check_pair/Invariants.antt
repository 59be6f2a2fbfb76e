use Rattle.std.proofs.Common.{◌≡◌, length}
use Rattle.std.specs.List.{AllByRecursion}
use Rattle.ground_clauses.specs.Cases.{pair_cases}
use Rattle.ground_clauses.specs.Listing.{CaseFits}
use Rattle.certificate_check.proofs.Walks.{Comes}
use Rattle.certificate_check.proofs.judge.check_pair.Given as goal

abbrev pub invariant-going : goal.invariant-going
invariant-going l = record {
  comes : Comes l.spec l.plan l.lines l.fn.at (pair_cases l.spec l.a l.b) l.at l.left;
  fits : AllByRecursion (CaseFits l.spec) l.left;
  over : l.queries.over ≡ l.spec;
}

abbrev pub decreases-going : goal.decreases-going
decreases-going l = length l.left
