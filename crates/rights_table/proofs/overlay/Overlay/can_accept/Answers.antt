use Rattle.std.proofs.Common.{not, sym, ap, ◌∙◌}
use Rattle.std.specs.Prelude.{is_some}
use Rattle.spec_model.specs.declared.right.Held.{Held}
use Rattle.run_model.specs.Allowed.{span_given}
use Rattle.run_model.specs.Passing as passing
use Rattle.rights_table.specs.Tables.{entered}
use Rattle.rights_table.proofs.Telling.{table_tells}
use Rattle.rights_table.proofs.overlay.Overlay.can_accept.Goals as goal

pub returns-then-has : goal.returns-then-has
returns-then-has c = λ logs me own is.
    let o = c.args.self.now in
    let p = c.args.piece.now in
    c.can_accept.ensures
    ∙ ap (λ (h : Held). passing.can_accept c.args.setup.now.replicas h p)
    (table_tells c.args.setup.now logs me own (λ q. is_some (entered o.touched q)) o.touched c.args.right.now (span_given p) is.touched (sym c.has.ensures ∙ c.if-has.true))

pub returns-else-has : goal.returns-else-has
returns-else-has c = λ logs me own is.
    let o = c.args.self.now in
    let p = c.args.piece.now in
    c.can_accept-else-has.ensures
    ∙ ap (λ (h : Held). passing.can_accept c.args.setup.now.replicas h p)
    (table_tells c.args.setup.now logs me own (λ q. not (is_some (entered o.touched q))) o.under.now c.args.right.now (span_given p) is.rest (ap not (sym c.has.ensures ∙ c.if-has.false)))
