use Rattle.std.proofs.Common.{ap, sym, ◌∙◌}
use Rattle.std.specs.Prelude.{Some}
use Rattle.rights_table.specs.declared.holding.Holding.{Holding}
use Rattle.rights_table.proofs.Entries.{kind_entered}
use Rattle.rights_table.proofs.Shows.{entered_shown, only_points, untouched_shown}
use Rattle.rights_table.proofs.table.Table.show_part.Goals as goal

pub unreachable-requires : goal.unreachable-requires
unreachable-requires c =
    let t = c.args.self.now in
    let r = c.args.right.now in
    let h : Holding = c.in-Some.holding.now in
    only_points t.replicas r c.args.part c.requires.of.0 h c.requires.of.1 (kind_entered t.replicas t.entries.entries r h t.kinds (sym c.in-Some.ensures)) c.in_default.not-Points

pub returns-in-Points : goal.returns-in-Points
returns-in-Points c = entered_shown c.args.setup.now c.args.self.now c.args.right.now c.args.part c.requires.of.0 c.in-Points.points c.show_points.result c.requires.of.1 (sym c.in-Some.ensures ∙ ap (λ (h : Holding). Some h) c.in-Points.is) c.show_points.ensures

pub returns-in-None : goal.returns-in-None
returns-in-None c = untouched_shown c.args.setup.now c.args.self.now c.args.right.now c.args.part c.requires.of.0 c.requires.of.1 (sym c.in-None.ensures)
