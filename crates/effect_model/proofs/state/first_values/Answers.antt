use Rattle.std.proofs.Common.{◌≡◌, ◌∙◌, ◌++◌, ap, sym, subst, ℤ, replicate}
use mir.Syntax.{w64}
use mir.Val.{to_z, of_z}
use Rattle.spec_model.specs.Fits.{NumFits}
use Rattle.effect_model.proofs.Sizes.{all_at}
use Rattle.spec_model.specs.Universe.{sizes_of, tuple_count}
use Rattle.effect_model.proofs.Filled.{values_filled, init_fits}
use Rattle.effect_model.proofs.state.first_values.Goals as goal

pub loop-num-preserved : goal.loop-num-preserved
loop-num-preserved c =
    let items = c.as_slice-num-items.ensures.value in
    let spec = c.args.spec.now in
    let fits = all_at (NumFits spec) spec.nums c.loop-num.num-index c.num-item.result c.requires.nums (rw items at c.loop-num-test.true) in
    let reads : to_z w64 (of_z w64 c.num-item.result.init) ≡ c.num-item.result.init = init_fits spec c.num-item.result (subst (NumFits spec) (sym (rw items at c.num-item.is)) fits) in
    let step = c.in_ok-fill_values.ensures ∙ ap (λ (z : ℤ). c.loop-num.all ++ replicate c.count_tuples-count.result z) reads in
    values_filled spec c.loop-num.num-index c.num-item.result c.count_tuples-count.result c.loop-num.all _ (rw items at c.loop-num-test.true) (rw items at c.num-item.is)
    (c.count_tuples-count.ensures ∙ ap (λ ss. tuple_count (sizes_of spec ss)) c.as_slice.ensures.value) step c.loop-num.invariant
