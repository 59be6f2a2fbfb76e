use Rattle.std.proofs.Common.{◌∙◌, ap}
use Rattle.spec_model.specs.Universe.{sizes_of, tuple_count}
use Rattle.effect_model.proofs.Filled.{truths_filled}
use Rattle.effect_model.proofs.state.first_truths.Goals as goal

pub loop-pred-preserved : goal.loop-pred-preserved
loop-pred-preserved c =
    let items = c.as_slice-pred-items.ensures.value in
    let spec = c.args.spec.now in
    truths_filled spec c.loop-pred.pred-index c.pred-item.result c.count_tuples-count.result c.loop-pred.all _ (rw items at c.loop-pred-test.true) (rw items at c.pred-item.is)
    (c.count_tuples-count.ensures ∙ ap (λ ss. tuple_count (sizes_of spec ss)) c.as_slice.ensures.value) c.in_ok-fill_truths.ensures c.loop-pred.invariant
