use Rattle.std.proofs.Common.{◌∙◌, ap}
use Rattle.spec_model.specs.Universe.{sizes_of}
use Rattle.effect_model.proofs.Turning.{atoms_done}
use Rattle.effect_model.proofs.effects.changed_atoms.Goals as goal

pub loop-at-preserved : goal.loop-at-preserved
loop-at-preserved c =
    let items = c.as_slice-pred-items.ensures.value in
    atoms_done c.args.spec.now c.args.inst.now c.lines_of-lines.result.now c.args.spec.now.preds c.as_slice-in-loop-at.result.now c.loop-at.at c.pred-item.result c.loop-at.out _ _ c.lines_of-lines.ensures (rw items at c.loop-at-test.true) (rw items at c.pred-item.is)
    (c.as_slice-in-loop-at.ensures.value ∙ c.sort_sizes-sizes.ensures ∙ ap (sizes_of c.args.spec.now) c.as_slice.ensures.value) (rw c.new.ensures at c.in_ok-walk.ensures) c.loop-at.invariant
