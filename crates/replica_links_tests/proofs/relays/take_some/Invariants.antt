use Rattle.replica_links.specs.Passes.{IsGetOf}
use Rattle.replica_links_tests.proofs.relays.take_some.Given as goal

abbrev pub invariant-loop : goal.invariant-loop
invariant-loop g l = IsGetOf l.link l.pass
