use Rattle.std.proofs.Common.{arith}
use mathlib.Core.Option.{none}
use Rattle.atomic_table.specs.Table.{step}
use Rattle.turn_desk.proofs.Counts.{counting_from}
use Rattle.turn_desk.proofs.desk.Desk.count.Goals as goal

pub fetch_add-requires : goal.fetch_add-requires
fetch_add-requires g c =
    let table = c.args.self.now.table.shared in let hand = c.args.hand.now in
    let st = step table.table_id.slots 0 1 0 none in (
      c.requires.own,
      omega (arith, c.args.self.now.sized.0),
      counting_from g.V.Turn table.key table.table_id.slots hand.id st hand.me.0 hand.me.1 c.requires.serves c.requires.home,
    )
