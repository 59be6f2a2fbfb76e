use Rattle.std.proofs.Common.{◌≡◌, ◌++◌, ◌∙◌, ap, sym, subst, List, ℕ, is_some, Some, Bool, []}
use Rattle.std.specs.List.{flat_map, AllByRecursion, slice_get}
use Rattle.std.proofs.lemmas.Option.{slice_get-get_or}
use Rattle.spec_model.specs.Universe.{tuples, sizes_of}
use Rattle.effect_model.specs.Amounts.{IsFew}
use Rattle.effect_model.specs.Turns.{cell_needs}
use Rattle.effect_model.proofs.Needed.{cell_escrow, needs_few}
use Rattle.effect_model.proofs.Turning.{cells_done, cells_end, needs_are}
use Rattle.effect_model.proofs.escrow.escrow_needs.Goals as goal

pub loop-at-preserved : goal.loop-at-preserved
loop-at-preserved c =
    let items = c.as_slice-num-items.ensures.value in
    let n = c.num-item.result in
    let inside = rw items at c.loop-at-test.true in
    let n_is = rw items at c.num-item.is in
    let listed = λ (low high : Bool) (xs : List ℕ). cell_needs c.args.inst.now c.lines_of-lines.result.now low high (record { num = c.loop-at.at; args = xs }) in
    let so_far = λ (low high : Bool) (front : List ℕ). c.loop-at.out ++ flat_map (λ behind. listed low high (front ++ behind)) (tuples c.as_slice-in-loop-at.result.now) in
    let step : c.walk.new.out ≡ so_far c.is_some.result c.is_some-in-loop-at.result c.new.result = c.in_ok-walk.ensures in
    let bounds : so_far c.is_some.result c.is_some-in-loop-at.result c.new.result ≡ so_far (is_some n.min) (is_some n.max) [] = ap (λ b. so_far b c.is_some-in-loop-at.result c.new.result) c.is_some.ensures ∙ ap (λ b. so_far (is_some n.min) b c.new.result) c.is_some-in-loop-at.ensures ∙ ap (so_far (is_some n.min) (is_some n.max)) c.new.ensures in
    let found : slice_get c.args.spec.now.nums c.loop-at.at ≡ Some n = slice_get-get_or c.args.spec.now.nums c.loop-at.at n inside ∙ ap Some (sym n_is) in
    cells_done (cell_escrow c.args.spec.now c.args.inst.now) (listed (is_some n.min) (is_some n.max)) c.args.spec.now c.args.spec.now.nums c.as_slice-in-loop-at.result.now c.loop-at.at n c.loop-at.out _ _
    (needs_are c.args.spec.now c.args.inst.now c.lines_of-lines.result.now c.loop-at.at n c.lines_of-lines.ensures found) inside n_is
    (c.as_slice-in-loop-at.ensures.value ∙ c.sort_sizes-sizes.ensures ∙ ap (sizes_of c.args.spec.now) c.as_slice.ensures.value) (step ∙ bounds) c.loop-at.invariant

pub returns-clause-few : goal.returns-clause-few
returns-clause-few c =
    let spec = c.args.spec.now in
    let past = rw c.as_slice-num-items.ensures.value at c.loop-at-test.false in
    let all_is = cells_end (cell_escrow spec c.args.inst.now) spec spec.nums c.loop-at.at c.loop-at.out _ past c.loop-at.invariant in
    subst (AllByRecursion IsFew) (sym all_is) (needs_few spec c.args.inst.now c.requires.well_formed)
