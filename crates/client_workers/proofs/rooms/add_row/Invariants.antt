use Rattle.std.proofs.Common.{◌≡◌, ◌++◌}
use Rattle.client_workers.specs.Rooms.{first_rooms}
use Rattle.client_workers.proofs.rooms.add_row.Given as goal

abbrev pub invariant-loop-to : goal.invariant-loop-to
invariant-loop-to l = l.rooms ≡ l.fn.rooms ++ first_rooms l.asks l.to
