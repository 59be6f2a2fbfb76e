use Rattle.std.proofs.Common.{not, sym, ap, ◌∙◌}
use Rattle.std.specs.Prelude.{is_some}
use Rattle.run_model.specs.Holding.{span_in}
use Rattle.rights_table.specs.Tables.{entered}
use Rattle.rights_table.proofs.Telling.{table_tells}
use Rattle.rights_table.proofs.overlay.Overlay.held.Goals as goal

pub returns-then-has : goal.returns-then-has
returns-then-has c = λ logs me own is.
    let o = c.args.self.now in
    let need = c.args.need.now in
    c.held.ensures ∙ table_tells c.args.setup.now logs me own (λ q. is_some (entered o.touched q)) o.touched need.right (span_in need.amount) is.touched (sym c.has.ensures ∙ c.if-has.true)

pub returns-else-has : goal.returns-else-has
returns-else-has c = λ logs me own is.
    let o = c.args.self.now in
    let need = c.args.need.now in
    c.held-else-has.ensures ∙ table_tells c.args.setup.now logs me own (λ q. not (is_some (entered o.touched q))) o.under.now need.right (span_in need.amount) is.rest (ap not (sym c.has.ensures ∙ c.if-has.false))
