use Rattle.std.proofs.Common.{arith}
use mathlib.Core.Option.{none}
use Rattle.atomic_table.specs.Table.{step}
use Rattle.turn_desk.proofs.Draws.{drawing}
use Rattle.turn_desk.proofs.desk.Desk.draw.Goals as goal

pub fetch_add-requires : goal.fetch_add-requires
fetch_add-requires g c =
    let table = c.args.self.now.table.shared in let hand = c.args.hand.now in
    let st = step table.table_id.slots 1 1 0 none in (
      c.requires.own,
      omega (arith, c.args.self.now.sized.0),
      drawing g.V.Turn table.key table.table_id.slots hand.id st hand.me.0 hand.me.1 c.requires.idle.0 c.requires.parts,
    )
