use Rattle.std.proofs.Common.{◌≡◌, take}
use Rattle.desk_workers.specs.Workers.{asks_at}
use Rattle.desk_workers.proofs.worker.count_asks.Given as goal

abbrev pub invariant-loop-worker : goal.invariant-loop-worker
invariant-loop-worker g l = l.count ≡ asks_at l.desk (take l.worker-index l.workers)
