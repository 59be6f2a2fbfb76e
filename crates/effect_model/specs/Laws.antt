-- Laws of the universe.
use Rattle.std.specs.Prelude.{◌≡◌, ◌↔◌, ℕ, slice_get, Some, Contains}
use Rattle.spec_model.specs.declared.spec.Spec.{Spec}
use Rattle.spec_model.specs.declared.instance.Atom.{Atom}
use Rattle.spec_model.specs.declared.instance.Cell.{Cell}
use Rattle.spec_model.specs.Universe.{atoms, cells}
use Rattle.effect_model.specs.Places.{AtomFits, CellFits}

-- the atoms are the declared predicates at elements of their sorts, and each stands at one place
pub record AtomsAreAll (spec : Spec) (atom : Atom) : Type 0 where
  pub those_that_fit : Contains (atoms spec) atom ↔ AtomFits spec atom
  pub once : (i j : ℕ) → slice_get (atoms spec) i ≡ Some atom → slice_get (atoms spec) j ≡ Some atom → i ≡ j

-- the cells are the declared numbers at elements of their sorts, and each stands at one place
pub record CellsAreAll (spec : Spec) (cell : Cell) : Type 0 where
  pub those_that_fit : Contains (cells spec) cell ↔ CellFits spec cell
  pub once : (i j : ℕ) → slice_get (cells spec) i ≡ Some cell → slice_get (cells spec) j ≡ Some cell → i ≡ j

abbrev pub UniverseIsAll : Type 0
UniverseIsAll = (spec : Spec) → ((atom : Atom) → AtomsAreAll spec atom) × ((cell : Cell) → CellsAreAll spec cell)
