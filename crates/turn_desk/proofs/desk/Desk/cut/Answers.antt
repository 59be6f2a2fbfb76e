use Rattle.std.proofs.Common.{arith}
use Rattle.turn_desk.proofs.Splits.{splitting, no_beside}
use Rattle.turn_desk.proofs.desk.Desk.cut.Goals as goal

pub split_seat-requires : goal.split_seat-requires
split_seat-requires g c =
    let pass = c.args.pass.now in let v = pass.hand.me.0 in let n = g.N.Parts.parts in let ask = c.requires.parts in (
      c.requires.own.0,
      omega (arith, c.args.self.now.sized.0),
      splitting g.V.Turn c.args.self.now.table.shared.key pass.hand.id n v pass.idle ask.0 ask.1 (no_beside n v pass.idle ask.2),
    )
