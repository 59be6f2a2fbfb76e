use Rattle.std.proofs.Common.{◌≡◌, [], ◌∷◌, ◌++◌, Bool, true, not, refl, sym, subst, ◌∙◌}
use Rattle.std.specs.Prelude.{is_some}
use Rattle.spec_model.specs.declared.right.Held.{Held}
use Rattle.spec_model.specs.declared.right.Right.{Right}
use Rattle.run_model.specs.Allowed.{span_given}
use Rattle.run_model.specs.Passing.{can_accept}
use Rattle.rights_table.specs.declared.overlay.Overlay.{Overlay}
use Rattle.rights_table.specs.Tables.{entered}
use Rattle.rights_table.proofs.Telling.{table_tells}
use Rattle.rights_table.proofs.Few.{few_accepted}
use Rattle.rights_table.proofs.Others.{others_accepted}
use Rattle.rights_table.proofs.Touched.{entered_some, overlay_moved, touched_other}
use Rattle.rights_table.proofs.overlay.Overlay.accept.Goals as goal

pub accept-requires-clause-joins : goal.accept-requires-clause-joins
accept-requires-clause-joins c =
    let setup = c.args.setup.now in
    let o : Overlay = c.args.self.now in
    let r : Right = c.args.right.now in
    let p = c.args.piece.now in
    let j = c.requires.joins in
    let theirs = table_tells setup j.0 j.1 j.2 (λ q. is_some (entered o.touched q)) o.touched r (span_given p) j.3.touched (entered_some o.touched r c.requires.touched) in
    subst (λ (h : Held). can_accept setup.replicas h p ≡ true) (sym theirs) j.4

pub returns-clause-accepted : goal.returns-clause-accepted
returns-clause-accepted c = λ logs me own x out from at to accept there gave is.
    let setup = c.args.setup.now in
    let o : Overlay = c.args.self.now in
    let now : Overlay = record { touched = c.accept.new.self; under = o.under } in
    let r : Right = c.args.right.now in
    let p = c.args.piece.now in
    let has : Right → Bool = λ q. is_some (entered o.touched q) in
    let one = entered_some o.touched r c.requires.touched in
    let j = c.requires.joins in
    let theirs = table_tells setup j.0 j.1 j.2 has o.touched r (span_given p) j.3.touched one in
    let ours = table_tells setup logs me own has o.touched r (span_given p) is.touched one in
    let can = subst (λ (h : Held). can_accept setup.replicas h p ≡ true) (sym theirs ∙ ours) j.4 in
    let rest = others_accepted setup logs me own (λ q. not (has q)) x out from at to r p o.under.now (λ q none. touched_other o.touched r q c.requires.touched none) accept there gave is.rest in
    let few = few_accepted setup logs me own x out from at to r p c.few_replicas.ensures can accept there gave is.few in
    overlay_moved setup logs me (own ++ x ∷ []) o now refl c.accept.ensures.kept c.accept.ensures.no_more (c.accept.ensures.accepted logs me own has x out from at to accept there gave is.touched) rest few
