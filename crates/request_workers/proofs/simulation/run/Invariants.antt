use Rattle.std.proofs.Common.{ℕ, take}
use Rattle.replica_world.specs.Worlds.{AreKept, AreRunning, HasStopsAt}
use Rattle.request_workers.proofs.simulation.run.Given as goal

abbrev pub invariant-loop-order : goal.invariant-loop-order
invariant-loop-order g l =
    AreRunning l.setup (take l.order-index l.schedule) l.world.courses.items l.world.links.items
    × AreKept g.S.Storage.keeps l.setup l.world.courses.items l.world.storages.items
    × ((me given : ℕ) → HasStopsAt g.S.Storage.shows l.fn.world.courses.items l.fn.world.storages.items me given → HasStopsAt g.S.Storage.shows l.world.courses.items l.world.storages.items me given)
