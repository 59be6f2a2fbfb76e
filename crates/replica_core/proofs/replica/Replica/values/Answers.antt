use Rattle.std.proofs.Common.{◌≡◌, ℤ, List, ◌++◌, ◌∷◌, [], map, take, sym, ap, ◌∙◌, rules}
use mir.Val.{SFits, of_z, to_z}
use mir.Syntax.{w64}
use Rattle.std.proofs.lemmas.Int.{to_z-of_z}
use Rattle.spec_model.specs.Universe.{cells}
use Rattle.run_model.specs.declared.history.CellValue.{CellValue}
use Rattle.replica_core.specs.Shown.{value_now}
use Rattle.replica_core.proofs.Showing.{cell_known}
use Rattle.replica_core.proofs.Lists.{map_at}
use Rattle.replica_core.proofs.replica.Replica.values.Goals as goal

pub value-value-requires-clause-fits : goal.value-value-requires-clause-fits
value-value-requires-clause-fits c =
    let spec = c.args.spec.now in
    cell_known c.universe_is_all.ensures spec c.loop-place.place c.cell_at-cell.result c.cell_at-cell.ensures

pub loop-place-preserved : goal.loop-place-preserved
loop-place-preserved c =
    let spec = c.args.spec.now in
    let f = value_now spec c.args.self.now in
    let v : ℤ = to_z w64 (of_z w64 c.value-value.result) in
    let small : SFits w64 c.value-value.result = search rules in
    let one : CellValue = record { cell = c.cell_at-cell.result; value = v } in
    let is : one ≡ f c.cell_at-cell.result = ap (λ (v : ℤ). let w : CellValue = record { cell = c.cell_at-cell.result; value = v } in w) (to_z-of_z w64 c.value-value.result small ∙ c.value-value.ensures.value) in
    c.in_ok-push.ensures.ok ∙ ap (λ (l : List CellValue). l ++ one ∷ []) c.loop-place.invariant ∙ ap (λ w. map f (take c.loop-place.place (cells spec)) ++ w ∷ []) is ∙ sym (map_at f (cells spec) c.loop-place.place c.cell_at-cell.result c.cell_at-cell.ensures)
