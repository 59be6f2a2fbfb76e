use Rattle.turn_desk.proofs.Turns.{is_turned, adds_turn, adds_own}
use Rattle.turn_desk.proofs.desk.Desk.turn.Goals as goal

pub put_back-requires-clause-turned : goal.put_back-requires-clause-turned
put_back-requires-clause-turned g c =
    let taken = c.take-value in let said = c.turn-answer.ensures in
    is_turned g.V.Turn c.args.pass.now.hand.me.0 taken.result taken.new.hand.me taken.ensures.takes c.turn-answer.new.self c.args.ask
    c.turn-answer.result said.opening said.served said.err

pub returns-clause-line : goal.returns-clause-line
returns-clause-line g c =
    let taken = c.take-value in let said = c.turn-answer.ensures in let back = c.put_back in
    adds_turn g.V.Turn c.args.pass.now.hand.me.0 taken.result taken.new.hand.me taken.ensures.takes c.turn-answer.new.self c.args.ask
    c.turn-answer.result said.opening said.served said.err back.new.hand.me back.ensures.ends

pub returns-clause-turns : goal.returns-clause-turns
returns-clause-turns g c =
    let taken = c.take-value in let said = c.turn-answer.ensures in let back = c.put_back in let before = c.args.pass.now.hand.me.0 in
    adds_own before.notes _ back.new.hand.me.0.notes
    (adds_turn g.V.Turn before taken.result taken.new.hand.me taken.ensures.takes c.turn-answer.new.self c.args.ask
    c.turn-answer.result said.opening said.served said.err back.new.hand.me back.ensures.ends)
