use Rattle.std.proofs.Common.{◌≡◌, ◌++◌, drop, map}
use Rattle.spec_model.specs.Universe.{atoms, atoms_from}
use Rattle.effect_model.specs.Firsts.{atom_first}
use Rattle.effect_model.proofs.state.first_truths.Given as goal

abbrev pub invariant-loop-pred : goal.invariant-loop-pred
invariant-loop-pred l = l.all ++ map (atom_first l.spec) (atoms_from l.spec l.pred-index (drop l.pred-index l.spec.preds)) ≡ map (atom_first l.spec) (atoms l.spec)
