use Rattle.replica_wires.specs.Beginning.{AreEmpty}
use Rattle.replica_wires.proofs.begun.no_passes.Given as goal

abbrev pub invariant-loop-replica : goal.invariant-loop-replica
invariant-loop-replica l = AreEmpty l._replica l.all.items
