-- A state: the truth of every atom and the value of every cell, in the order of the universe.
use Rattle.std.specs.Prelude.{◌≡◌, ℤ, pos, Bool, false, List, get_or}
use Rattle.spec_model.specs.declared.instance.Atom.{Atom}
use Rattle.spec_model.specs.declared.instance.Cell.{Cell}
use Rattle.spec_model.specs.declared.spec.Spec.{Spec}
use Rattle.spec_model.specs.Truths.{Truths}
use Rattle.spec_model.specs.Universe.{first_truths, first_value}
use Rattle.effect_model.specs.Places.{AtomFits, CellFits, atom_index, cell_index}

pub record Contents : Type 0 where
  pub spec : Spec
  pub truths : List Bool
  pub values : List ℤ

-- the truth of an atom
abbrev pub truth_in : Contents → Truths
truth_in s p xs = get_or s.truths (atom_index s.spec p xs) false

-- the value of a cell
abbrev pub value_in : Contents → Cell → ℤ
value_in s cell = get_or s.values (cell_index s.spec cell) (pos 0)

-- every atom has its first truth and every cell its first value
pub record IsFirst (spec : Spec) (s : Contents) : Type 0 where
  pub of_spec : s.spec ≡ spec
  pub truths : (atom : Atom) → AtomFits spec atom → truth_in s atom.pred atom.args ≡ first_truths spec atom.pred atom.args
  pub values : (cell : Cell) → CellFits spec cell → value_in s cell ≡ first_value spec cell
