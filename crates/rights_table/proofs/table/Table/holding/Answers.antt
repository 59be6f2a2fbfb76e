use Rattle.std.proofs.Common.{sym}
use Rattle.rights_table.proofs.Entries.{kind_entered}
use Rattle.rights_table.proofs.Rooms.{held_copied, held_first}
use Rattle.rights_table.proofs.table.Table.holding.Goals as goal

pub copy-requires : goal.copy-requires
copy-requires c =
    let t = c.args.self.now in
    (t.replicas, c.args.right.now, kind_entered t.replicas t.entries.entries c.args.right.now c.in-Some.holding.now t.kinds (sym c.in-Some.ensures))

pub returns-in-Some : goal.returns-in-Some
returns-in-Some c = held_copied c.args.setup.now c.args.self.now c.args.right.now c.in-Some.holding.now c.copy.result c.requires.replicas (sym c.in-Some.ensures) c.copy.ensures

pub returns-in-None : goal.returns-in-None
returns-in-None c = held_first c.args.setup.now c.args.self.now c.args.right.now c.first_holding.result (sym c.in-None.ensures) c.first_holding.ensures
