use Rattle.std.proofs.Common.{◌≡◌, replicate}
use Rattle.replica_core.proofs.replica.nothing_told.Given as goal

abbrev pub invariant-loop-i : goal.invariant-loop-i
invariant-loop-i l = l.told ≡ replicate l._i l.cut
