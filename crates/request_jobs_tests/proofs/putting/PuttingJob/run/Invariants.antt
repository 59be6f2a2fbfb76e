use Rattle.std.proofs.Common.{◌≡◌, length}
use Rattle.replica_links.specs.Passes.{put_of, IsPutOf}
use Rattle.request_jobs_tests.proofs.putting.PuttingJob.run.Given as goal

abbrev pub invariant-loop-number : goal.invariant-loop-number
invariant-loop-number g l = IsPutOf l.link l.pass × (length (put_of l.pass) ≡ l.number)
