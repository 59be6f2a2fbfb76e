use Rattle.desk_workers.proofs.Closing.{AreClosing}
use Rattle.desk_workers.proofs.places.close_all.Given as goal

abbrev pub invariant-loop-desk : goal.invariant-loop-desk
invariant-loop-desk g l = AreClosing g.V.Turn.history g.V.Turn.opening l.fn.desks.items l.yielded l.desk-iterator.rest.items l.fn.slots.items l.slots.items l.values l.at
