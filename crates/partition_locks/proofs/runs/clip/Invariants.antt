use Rattle.std.specs.Prelude.{◌≡◌, ◌++◌, drop}
use Rattle.partition_locks.specs.Held.{clipped}
use Rattle.partition_locks.proofs.runs.clip.Given as goal

-- what is left is put yet
abbrev pub invariant-loop-run : goal.invariant-loop-run
invariant-loop-run l = l.out ++ clipped l.all (drop l.run-index l.runs) ≡ l.fn.out ++ clipped l.all l.runs
