use Rattle.replica_links.specs.Passes.{IsGetOf}
use Rattle.request_jobs_tests.proofs.putting.got.Given as goal

abbrev pub invariant-loop-turn : goal.invariant-loop-turn
invariant-loop-turn g l = IsGetOf l.link l.pass
