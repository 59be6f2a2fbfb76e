use Rattle.replica_wires.specs.Beginning.{IsBegun}
use Rattle.replica_wires.proofs.web.Web.begin.Given as goal

abbrev pub invariant-loop-from : goal.invariant-loop-from
invariant-loop-from l = IsBegun l.rooms l.replicas l.from 0 l.begun
