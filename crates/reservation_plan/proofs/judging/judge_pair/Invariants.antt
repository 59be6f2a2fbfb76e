use Rattle.std.proofs.Common.{◌≡◌, length}
use Rattle.ground_clauses.specs.Cases.{pair_cases}
use Rattle.reservation_plan.specs.Judging.{Comes}
use Rattle.reservation_plan.proofs.judging.judge_pair.Given as goal

abbrev pub invariant-going : goal.invariant-going
invariant-going l = record {
  comes : Comes l.spec (pair_cases l.spec l.fn.pair.a l.fn.pair.b) l.left l.judgements;
  over : l.queries.over ≡ l.spec;
}

abbrev pub decreases-going : goal.decreases-going
decreases-going l = length l.left
