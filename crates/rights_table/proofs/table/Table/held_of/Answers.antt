use Rattle.std.proofs.Common.{refl, sym, ◌∙◌}
use Rattle.rights_table.proofs.Entries.{kind_entered}
use Rattle.rights_table.proofs.Telling.{told_held}
use Rattle.rights_table.proofs.table.Table.held_of.Goals as goal

pub returns-in-Some : goal.returns-in-Some
returns-in-Some c =
    let t = c.args.self.now in
    let r = c.args.right.now in
    let h = c.in-Some.holding.now in
    let is = sym c.in-Some.ensures in
    c.told.ensures ∙ told_held c.args.setup.now t t.replicas r h c.args.span.now is (kind_entered t.replicas t.entries.entries r h t.kinds is)

pub returns-in-None : goal.returns-in-None
returns-in-None c = c.first_told.ensures c.args.self.now refl (sym c.in-None.ensures)
