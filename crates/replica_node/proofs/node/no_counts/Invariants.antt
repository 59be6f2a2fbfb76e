use Rattle.std.proofs.Common.{◌≡◌, replicate}
use Rattle.replica_node.proofs.node.no_counts.Given as goal

abbrev pub invariant-loop-replica : goal.invariant-loop-replica
invariant-loop-replica l = l.counts ≡ replicate l._replica 0
