use Rattle.std.proofs.Common.{◌≡◌}
use Rattle.replica_wires.specs.Ends.{place_of}
use Rattle.replica_wires_tests.proofs.relays.put_some.Given as goal

abbrev pub invariant-loop-number : goal.invariant-loop-number
invariant-loop-number g l = place_of l.wires ≡ place_of l.fn.wires
