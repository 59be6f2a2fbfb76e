use Rattle.desk_workers.proofs.Gathering.{AreBack}
use Rattle.desk_workers.proofs.places.gather.Given as goal

abbrev pub invariant-loop-done : goal.invariant-loop-done
invariant-loop-done g l = AreBack g.V.Turn.is_answer g.V.Turn.opening l.desks l.fn.back l.yielded l.done-iterator.rest.items l.slots
