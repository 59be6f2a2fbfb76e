-- The effect of an instance: what it changes, in the order of the universe.
use Rattle.std.specs.Prelude.{ℕ, pos, ◌-ℤ◌, List, [], ◌∷◌, Bool, ◌==◌, if◌then◌else◌, Option, Some, None}
use Rattle.std.specs.List.{flat_map}
use Rattle.spec_model.specs.declared.spec.Spec.{Spec}
use Rattle.spec_model.specs.declared.instance.Atom.{Atom}
use Rattle.spec_model.specs.declared.instance.Cell.{Cell}
use Rattle.spec_model.specs.declared.instance.Inst.{Inst}
use Rattle.spec_model.specs.Truths.{inst_sets}
use Rattle.spec_model.specs.Universe.{atoms, cells}
use Rattle.spec_model.specs.Changes.{added, subtracted}
use Rattle.effect_model.specs.declared.change.AtomChange.{AtomChange}
use Rattle.effect_model.specs.declared.change.CellChange.{CellChange}
use Rattle.effect_model.specs.declared.change.Change.{Change}

-- the atom with this truth, if it gets one
abbrev pub with_truth : Atom → Option Bool → List AtomChange
with_truth atom None = []
with_truth atom (Some truth) = record { atom = atom; truth = truth } ∷ []

-- the change of an atom, if the instance sets it
abbrev pub atom_change : Spec → Inst → Atom → List AtomChange
atom_change spec inst atom = with_truth atom (inst_sets spec inst atom.pred atom.args)

-- the cell with what is added to it less what is subtracted, if that isn't 0
abbrev pub with_net : Cell → ℕ → ℕ → List CellChange
with_net cell plus minus = if plus == minus then [] else record { cell = cell; by = pos plus -ℤ pos minus } ∷ []

-- the change of a cell, if the instance changes it
abbrev pub cell_change : Spec → Inst → Cell → List CellChange
cell_change spec inst cell = with_net cell (added spec inst cell) (subtracted spec inst cell)

-- each atom that is set and each cell that is changed, once, in the order of the universe
abbrev pub effect_of : Spec → Inst → Change
effect_of spec inst = record {
  atoms = flat_map (atom_change spec inst) (atoms spec);
  cells = flat_map (cell_change spec inst) (cells spec);
}
