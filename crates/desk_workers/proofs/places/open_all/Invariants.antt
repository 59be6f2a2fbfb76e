use Rattle.desk_workers.proofs.Opening.{AreOpening}
use Rattle.desk_workers.proofs.places.open_all.Given as goal

abbrev pub invariant-loop-value : goal.invariant-loop-value
invariant-loop-value g l = AreOpening g.V.Turn.opening l.workers l.fn.values l.yielded l.value-iterator.rest.items l.desks.items l.slots.items l.at
