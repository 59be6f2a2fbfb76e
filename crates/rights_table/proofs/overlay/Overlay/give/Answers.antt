use Rattle.std.proofs.Common.{[], ◌∷◌, ◌++◌, Bool, not, refl, sym, subst}
use Rattle.std.specs.Prelude.{is_some}
use Rattle.spec_model.specs.declared.right.Right.{Right}
use Rattle.rights_table.specs.declared.overlay.Overlay.{Overlay}
use Rattle.rights_table.specs.Tables.{entered}
use Rattle.spec_model.specs.declared.right.Held.{Held}
use Rattle.run_model.specs.Allowed.{IsHeldPiece, span_given}
use Rattle.rights_table.proofs.Telling.{table_tells}
use Rattle.rights_table.proofs.Few.{few_given}
use Rattle.rights_table.proofs.Others.{others_given}
use Rattle.rights_table.proofs.Touched.{entered_some, overlay_moved, touched_other}
use Rattle.rights_table.proofs.overlay.Overlay.give.Goals as goal

pub give-requires-clause-held : goal.give-requires-clause-held
give-requires-clause-held c =
    let setup = c.args.setup.now in
    let o : Overlay = c.args.self.now in
    let r : Right = c.args.right.now in
    let p = c.args.piece.now in
    let h = c.requires.held in
    let tells = table_tells setup h.0 h.1 h.2 (λ q. is_some (entered o.touched q)) o.touched r (span_given p) h.3.touched (entered_some o.touched r c.requires.touched) in
    subst (λ (held : Held). IsHeldPiece held p) (sym tells) h.4

pub returns-clause-out : goal.returns-clause-out
returns-clause-out c = λ logs me own x to out is.
    let setup = c.args.setup.now in
    let o : Overlay = c.args.self.now in
    let now : Overlay = record { touched = c.give.new.self; under = o.under } in
    let r : Right = c.args.right.now in
    let p = c.args.piece.now in
    let has : Right → Bool = λ q. is_some (entered o.touched q) in
    let rest = others_given setup logs me own (λ q. not (has q)) x to r p o.under.now (λ q none. touched_other o.touched r q c.requires.touched none) out is.rest in
    overlay_moved setup logs me (own ++ x ∷ []) o now refl c.give.ensures.kept c.give.ensures.no_more (c.give.ensures.out logs me own has x to out is.touched) rest (few_given setup logs me own x to r p out is.few)
