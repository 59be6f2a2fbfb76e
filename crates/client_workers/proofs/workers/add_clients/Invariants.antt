use Rattle.std.proofs.Common.{◌≡◌, ◌++◌, drop}
use Rattle.client_workers.specs.Workers.{clients_from}
use Rattle.client_workers.proofs.workers.add_clients.Given as goal

abbrev pub invariant-loop-home : goal.invariant-loop-home
invariant-loop-home l = (l.workers ++ clients_from l.client (drop l.home-index l.homes) l.asked ≡ l.fn.workers ++ clients_from 0 l.homes l.asked) × (l.client ≡ l.home-index)
