use Rattle.std.proofs.Common.{◌≡◌, ◌++◌}
use Rattle.client_workers.specs.Workers.{first_couriers}
use Rattle.client_workers.proofs.workers.add_couriers.Given as goal

abbrev pub invariant-loop-me : goal.invariant-loop-me
invariant-loop-me l = l.workers ≡ l.fn.workers ++ first_couriers l.replicas l.turns l.me
