use Rattle.std.proofs.Common.{◌≡◌, Bool, Option, Some, sym, ap, subst, ◌∙◌}
use Rattle.std.specs.Prelude.{IsTrue}
use Rattle.spec_model.specs.declared.right.Right.{Right}
use Rattle.rights_table.specs.declared.holding.Holding.{Holding}
use Rattle.rights_table.specs.Same.{same_is}
use Rattle.rights_table.proofs.table.Table.is_first.Goals as goal

pub returns-in-Some : goal.returns-in-Some
returns-in-Some c = λ yes.
    let key : Right = c.in-Some.key.now in
    let held : Holding = c.in-Some.field-0-1.now in
    let same : key ≡ c.of.result = same_is key c.of.result (subst (λ (b : Bool). IsTrue b) c.eq.ensures yes) in
    (held, sym c.in-Some.ensures.entry ∙ ap (λ (r : Right). let found : Option (Right × Holding) = Some (r, held) in found) (same ∙ c.of.ensures))
