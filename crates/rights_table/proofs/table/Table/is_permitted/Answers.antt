use Rattle.std.proofs.Common.{sym, ap, ◌∙◌}
use Rattle.spec_model.specs.declared.right.Held.{Held}
use Rattle.run_model.specs.Holding.{span_in}
use Rattle.run_model.specs.Levels.{permits}
use Rattle.rights_table.proofs.Entries.{kind_entered}
use Rattle.rights_table.proofs.Telling.{told_held}
use Rattle.rights_table.proofs.table.Table.is_permitted.Goals as goal

pub returns-in-Some : goal.returns-in-Some
returns-in-Some c =
    let t = c.args.self.now in
    let r = c.args.right.now in
    let h = c.in-Some.holding.now in
    let is = sym c.in-Some.ensures in
    c.allows.ensures ∙ ap (λ (held : Held). permits c.args.setup.now.replicas held c.args.amount.now) (told_held c.args.setup.now t t.replicas r h (span_in c.args.amount.now) is (kind_entered t.replicas t.entries.entries r h t.kinds is))
