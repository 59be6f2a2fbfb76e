use Rattle.std.proofs.Common.{◌∙◌, arith}
use mathlib.Core.Option.{none}
use Rattle.atomic_table.specs.Table.{step}
use Rattle.turn_desk.proofs.Joins.{joining, gathering_from}
use Rattle.turn_desk.proofs.desk.Desk.join_pass.Goals as goal

pub join_seat-requires : goal.join_seat-requires
join_seat-requires g c =
    let into = c.args.into.now in let from = c.args.from in let own = c.requires.own in
    let key = c.args.self.now.table.shared.key in (
      own.0.0,
      own.1.0,
      from.empty,
      omega (arith, c.args.self.now.sized.0),
      joining g.V.Turn key into.hand.id into.hand.me.0 from.hand.id from.hand.me.0 into.idle from.idle own.0.1,
    )

pub load-requires : goal.load-requires
load-requires g c =
    let into = c.args.into.now in let from = c.args.from in let table = c.args.self.now.table.shared in
    let st = step table.table_id.slots 0 0 0 none in let seat = c.join_seat.new.seat in (
      c.join_seat.ensures.0 ∙ c.requires.own.0.0,
      omega (arith, c.args.self.now.sized.0),
      gathering_from g.V.Turn table.key table.table_id.slots seat.id st seat.me into.hand.me.0 from.hand.me.0 into.hand.me.1
          c.join_seat.ensures.2 into.idle,
    )
