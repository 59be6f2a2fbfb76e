use Rattle.std.proofs.Common.{◌≡◌}
use Rattle.client_workers.specs.Rooms.{first_rows}
use Rattle.client_workers.proofs.rooms.rooms_of.Given as goal

abbrev pub invariant-loop-from : goal.invariant-loop-from
invariant-loop-from l = l.rooms ≡ first_rows l.replicas l.turns l.from
