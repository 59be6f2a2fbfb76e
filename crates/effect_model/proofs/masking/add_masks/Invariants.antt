use Rattle.std.proofs.Common.{◌≡◌, ◌++◌, drop}
use Rattle.spec_model.specs.Fits.{marked_from}
use Rattle.effect_model.specs.Masking.{wanted_of_masks}
use Rattle.effect_model.proofs.masking.add_masks.Given as goal

abbrev pub invariant-loop-at : goal.invariant-loop-at
invariant-loop-at g l =
    l.out ++ wanted_of_masks l.wanted l.laid.spec.now l.laid.inst.now (g.T.Truth.truths l.laid.state.now) (marked_from l.at (drop l.at l.laid.spec.now.clauses))
    ≡ l.fn.out ++ wanted_of_masks l.wanted l.laid.spec.now l.laid.inst.now (g.T.Truth.truths l.laid.state.now) (marked_from 0 l.laid.spec.now.clauses)
