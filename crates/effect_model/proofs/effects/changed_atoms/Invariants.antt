use Rattle.std.proofs.Common.{◌≡◌, ◌++◌, drop}
use Rattle.std.specs.List.{flat_map}
use Rattle.spec_model.specs.Universe.{atoms, atoms_from}
use Rattle.effect_model.specs.Effects.{atom_change}
use Rattle.effect_model.proofs.effects.changed_atoms.Given as goal

abbrev pub invariant-loop-at : goal.invariant-loop-at
invariant-loop-at l = l.out ++ flat_map (atom_change l.spec l.inst) (atoms_from l.spec l.at (drop l.at l.spec.preds)) ≡ flat_map (atom_change l.spec l.inst) (atoms l.spec)
