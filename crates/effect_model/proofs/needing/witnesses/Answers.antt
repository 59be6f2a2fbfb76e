use Rattle.std.proofs.Common.{sym, ap, ◌++◌, ◌∙◌, List}
use Rattle.spec_model.specs.declared.right.Need.{Need}
use Rattle.spec_model.specs.Fits.{marked_from}
use Rattle.effect_model.specs.Masking.{wanted_of_masks}
use Rattle.effect_model.proofs.Plainly.{witness, witness_masks}
use Rattle.effect_model.proofs.needing.witnesses.Goals as goal

pub returns : goal.returns
returns g c =
    let spec = c.args.spec.now in
    let s = g.T.Truth.truths c.args.state.now in
    let masks = marked_from 0 spec.clauses in
    c.in_ok-add_masks.ensures ∙ ap (λ (ns : List Need). ns ++ wanted_of_masks witness spec c.args.inst.now s masks) c.new-out.ensures ∙ sym (witness_masks spec masks c.args.inst.now s)
