use Rattle.std.proofs.Common.{arith}
use mathlib.Core.Option.{none}
use Rattle.atomic_table.specs.Table.{step}
use Rattle.turn_desk.proofs.Looks.{looking_from}
use Rattle.turn_desk.proofs.desk.Desk.look.Goals as goal

pub load-requires : goal.load-requires
load-requires g c =
    let table = c.args.self.now.table.shared in let hand = c.args.hand.now in
    let st = step table.table_id.slots 0 0 0 none in
    let waits = c.requires.waits in (
      c.requires.own,
      omega (arith, c.args.self.now.sized.0),
      looking_from g.V.Turn table.key table.table_id.slots hand.id st hand.me.0 hand.me.1 c.args.ticket c.requires.empty waits.0 waits.1,
    )
