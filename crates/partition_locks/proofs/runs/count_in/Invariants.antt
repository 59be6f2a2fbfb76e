use Rattle.std.proofs.Common.{◌≡◌, take}
use Rattle.std.specs.Prelude.{sum_by}
use Rattle.partition_locks.proofs.Counts.{shared}
use Rattle.partition_locks.proofs.runs.count_in.Given as goal

-- those of the runs that were seen
abbrev pub invariant-loop-run : goal.invariant-loop-run
invariant-loop-run l = l.have ≡ sum_by (shared l.span) (take l.run-index l.runs)
