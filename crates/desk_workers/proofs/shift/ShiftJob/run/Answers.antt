use Rattle.desk_workers.proofs.Shifts.{works_on}
use Rattle.desk_workers.proofs.shift.ShiftJob.run.Goals as goal

pub loop-ask-preserved : goal.loop-ask-preserved
loop-ask-preserved g c =
    let t = c.turn-answer.ensures in
    works_on g.V.Turn.is_answer g.V.Turn.opening c.args.self.desk.now c.args.self.asks c.loop-ask.pass c.turn-answer.new.pass c.loop-ask.yielded c.loop-ask.ask-iterator.rest.items _ c.in-Some.ask c.loop-ask.request c.loop-ask.served _ c.turn-answer.result
    c.still_all-served.ensures c.loop-ask.invariant (c.in-Some.ensures.steps).0 t.own t.parts t.turns t.answer
