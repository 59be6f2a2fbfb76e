use Rattle.std.proofs.Common.{◌∙◌, ap}
use Rattle.spec_model.specs.Universe.{sizes_of}
use Rattle.causal_store.specs.Keeping.{tag_by}
use Rattle.causal_store.proofs.TouchedAtoms.{atom_known, atoms_turn, sets_by}
use Rattle.causal_store.proofs.tags.tag_act.Goals as goal

pub visit_all-requires-clause-known : goal.visit_all-requires-clause-known
visit_all-requires-clause-known c =
    let items = c.as_slice-pred-items.ensures.value in
    let lt = rw items at c.loop-at-test.true in
    let is = rw items at c.pred-item.is in
    let sized = c.as_slice-in-loop-at.ensures.value ∙ c.sort_sizes-sizes.ensures ∙ ap (sizes_of c.args.spec.now) c.as_slice.ensures.value in
    λ behind within. atom_known c.args.spec.now c.loop-at.at c.pred-item.result c.as_slice-in-loop-at.result.now c.new.result behind lt is sized c.new.ensures within

pub loop-at-preserved : goal.loop-at-preserved
loop-at-preserved c =
    let items = c.as_slice-pred-items.ensures.value in
    let lt = rw items at c.loop-at-test.true in
    let is = rw items at c.pred-item.is in
    let sized = c.as_slice-in-loop-at.ensures.value ∙ c.sort_sizes-sizes.ensures ∙ ap (sizes_of c.args.spec.now) c.as_slice.ensures.value in
    let f = tag_by c.args.spec.now c.args.item.now (sets_by c.args.spec.now c.args.inst.now) in
    record {
      done = atoms_turn f c.args.spec.now c.args.spec.now.preds c.as_slice-in-loop-at.result.now c.new.result c.loop-at.at c.pred-item.result c.loop-at.tags c.visit_all.new.kept _ lt is sized c.new.ensures c.visit_all.ensures.done c.loop-at.invariant.done;
      can = c.visit_all.ensures.fits.2;
    }
