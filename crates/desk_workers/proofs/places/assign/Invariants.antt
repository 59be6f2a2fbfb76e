use Rattle.std.proofs.Common.{◌≡◌, All, map, slice_get, Some}
use Rattle.desk_workers.specs.Places.{busy}
use Rattle.desk_workers.specs.Standing.{MayWork}
use Rattle.desk_workers.proofs.Assigning.{AreAssigned}
use Rattle.desk_workers.proofs.places.assign.Given as goal

abbrev pub invariant-loop-worker : goal.invariant-loop-worker
invariant-loop-worker g l =
    AreAssigned l.fn.workers l.yielded l.worker-iterator.rest.items l.desks l.slots
    × All (λ job. MayWork g.V.Turn.fits g.V.Turn.opening job.desk.now job.asks job.pass) l.jobs
    × All (λ job. slice_get l.desks job.place ≡ Some job.desk.now) l.jobs
    × (map (λ job. (job.place, job.asks)) l.jobs ≡ busy l.yielded)
