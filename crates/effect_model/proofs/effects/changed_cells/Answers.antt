use Rattle.std.proofs.Common.{◌≡◌, ◌++◌, ◌∙◌, ap, List, ℕ}
use Rattle.std.specs.List.{flat_map}
use Rattle.spec_model.specs.Universe.{tuples, sizes_of}
use Rattle.effect_model.specs.Effects.{cell_change}
use Rattle.effect_model.specs.Turns.{cells_changed_by}
use Rattle.effect_model.proofs.Turning.{cells_done, changes_are}
use Rattle.effect_model.proofs.effects.changed_cells.Goals as goal

pub loop-at-preserved : goal.loop-at-preserved
loop-at-preserved c =
    let items = c.as_slice-num-items.ensures.value in
    let listed = λ (front : List ℕ). c.loop-at.out ++ flat_map (λ behind. cells_changed_by c.args.inst.now c.lines_of-lines.result.now c.loop-at.at (front ++ behind)) (tuples c.as_slice-in-loop-at.result.now) in
    let step : c.walk.new.out ≡ listed c.new.result = c.in_ok-walk.ensures in
    cells_done (cell_change c.args.spec.now c.args.inst.now) (cells_changed_by c.args.inst.now c.lines_of-lines.result.now c.loop-at.at) c.args.spec.now c.args.spec.now.nums c.as_slice-in-loop-at.result.now c.loop-at.at c.num-item.result c.loop-at.out _ _ (changes_are c.args.spec.now c.args.inst.now c.lines_of-lines.result.now c.loop-at.at c.lines_of-lines.ensures) (rw items at c.loop-at-test.true) (rw items at c.num-item.is)
    (c.as_slice-in-loop-at.ensures.value ∙ c.sort_sizes-sizes.ensures ∙ ap (sizes_of c.args.spec.now) c.as_slice.ensures.value) (step ∙ ap listed c.new.ensures) c.loop-at.invariant
