use Rattle.std.proofs.Common.{◌<◌, ◌≤◌, ◌-◌, length, take, drop}
use Rattle.std.specs.List.{AllByRecursion}
use Rattle.ind_base.specs.declared.span.Span.{Span}
use Rattle.partition_locks.specs.Edits.{ReachesTo}
use Rattle.partition_locks.proofs.runs.place_of.Given as goal

-- those before the low place end before the point, and the one at the high place reaches to it
abbrev pub invariant-halving : goal.invariant-halving
invariant-halving l = record {
  ordered : l.low ≤ l.high;
  within : l.high ≤ length l.runs;
  before : AllByRecursion (λ (run : Span). run.hi < l.x) (take l.low l.runs);
  reaches : ReachesTo l.x (drop l.high l.runs);
}

abbrev pub decreases-halving : goal.decreases-halving
decreases-halving l = l.high - l.low
