use Rattle.std.proofs.Common.{◌≡◌, replicate}
use Rattle.replica_core.proofs.replica.no_cut_of.Given as goal

abbrev pub invariant-loop-i : goal.invariant-loop-i
invariant-loop-i l = l.cut ≡ replicate l._i 0
