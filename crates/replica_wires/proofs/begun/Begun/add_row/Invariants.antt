use Rattle.replica_wires.specs.Beginning.{IsBegun}
use Rattle.replica_wires.proofs.begun.Begun.add_row.Given as goal

abbrev pub invariant-loop-to : goal.invariant-loop-to
invariant-loop-to l = IsBegun l.rooms l.replicas l.from l.to l.self
