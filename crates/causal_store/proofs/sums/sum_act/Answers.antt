use Rattle.std.proofs.Common.{◌∙◌, ap}
use Rattle.spec_model.specs.Changes.{net_fall, net_rise}
use Rattle.spec_model.specs.Universe.{sizes_of}
use Rattle.causal_store.specs.Keeping.{sum_by_item}
use Rattle.causal_store.proofs.TouchedCells.{cell_known, cells_turn}
use Rattle.causal_store.proofs.sums.sum_act.Goals as goal

pub visit_all-requires-clause-known : goal.visit_all-requires-clause-known
visit_all-requires-clause-known c =
    let items = c.as_slice-num-items.ensures.value in
    let lt = rw items at c.loop-at-test.true in
    let is = rw items at c.num-item.is in
    let sized = c.as_slice-in-loop-at.ensures.value ∙ c.sort_sizes-sizes.ensures ∙ ap (sizes_of c.args.spec.now) c.as_slice.ensures.value in
    λ behind within. cell_known c.args.spec.now c.loop-at.at c.num-item.result c.as_slice-in-loop-at.result.now c.new.result behind lt is sized c.new.ensures within

pub loop-at-preserved : goal.loop-at-preserved
loop-at-preserved c =
    let items = c.as_slice-num-items.ensures.value in
    let lt = rw items at c.loop-at-test.true in
    let is = rw items at c.num-item.is in
    let sized = c.as_slice-in-loop-at.ensures.value ∙ c.sort_sizes-sizes.ensures ∙ ap (sizes_of c.args.spec.now) c.as_slice.ensures.value in
    let f = sum_by_item c.args.spec.now (net_rise c.args.spec.now c.args.inst.now) (net_fall c.args.spec.now c.args.inst.now) in
    record {
      done = cells_turn f c.args.spec.now c.args.spec.now.nums c.as_slice-in-loop-at.result.now c.new.result c.loop-at.at c.num-item.result c.loop-at.sums c.visit_all.new.kept _ lt is sized c.new.ensures c.visit_all.ensures.done c.loop-at.invariant.done;
      whole = c.visit_all.ensures.fits.1;
    }
