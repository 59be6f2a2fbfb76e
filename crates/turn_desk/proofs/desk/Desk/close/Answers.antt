use Rattle.turn_desk.proofs.Closes.{closing, never_empty}
use Rattle.turn_desk.proofs.desk.Desk.close.Goals as goal

pub returns-clause-opening : goal.returns-clause-opening
returns-clause-opening g c =
    let last = c.close_with-closed.ensures.values.2 in let slot = c.take-slot.ensures.value in
    (closing g.V.Turn c.args.self.table.shared.key c.args.pass c.requires.all _ _ last slot c.in-Some.value c.in-Some.is).opening

pub returns-clause-history : goal.returns-clause-history
returns-clause-history g c =
    let last = c.close_with-closed.ensures.values.2 in let slot = c.take-slot.ensures.value in
    (closing g.V.Turn c.args.self.table.shared.key c.args.pass c.requires.all _ _ last slot c.in-Some.value c.in-Some.is).history

pub returns-clause-whole : goal.returns-clause-whole
returns-clause-whole g c =
    let last = c.close_with-closed.ensures.values.2 in let slot = c.take-slot.ensures.value in
    (closing g.V.Turn c.args.self.table.shared.key c.args.pass c.requires.all _ _ last slot c.in-Some.value c.in-Some.is).whole

pub unreachable-requires : goal.unreachable-requires
unreachable-requires g c =
    let last = c.close_with-closed.ensures.values.2 in let slot = c.take-slot.ensures.value in
    never_empty g.V.Turn c.args.self.table.shared.key c.args.pass c.requires.all _ _ last slot c.in-None.is
