use Rattle.desk_workers.proofs.Shifts.{IsAtWork}
use Rattle.desk_workers.proofs.shift.ShiftJob.run.Given as goal

abbrev pub invariant-loop-ask : goal.invariant-loop-ask
invariant-loop-ask g l = IsAtWork g.V.Turn.is_answer g.V.Turn.opening l.desk l.fn.self.asks l.pass l.yielded l.ask-iterator.rest.items l.request l.served
