-- What a replica shows of its state.
use Rattle.std.proofs.Common.{◌≡◌, ℕ, zero, suc, List, [], ◌∷◌, filter, get_or, map, refl}
use Rattle.std.specs.Prelude.{Contains, Some, slice_get}
use Rattle.std.proofs.lemmas.Option.{same_Some, slice_get_within}
use Rattle.spec_model.specs.declared.plan.Setup.{Setup}
use Rattle.spec_model.specs.declared.spec.Spec.{Spec}
use Rattle.spec_model.specs.declared.instance.Atom.{Atom}
use Rattle.spec_model.specs.declared.instance.Cell.{Cell}
use Rattle.spec_model.specs.Universe.{atoms, cells}
use Rattle.effect_model.specs.Laws.{UniverseIsAll}
use Rattle.effect_model.specs.Places.{CellFits}
use Rattle.run_model.specs.declared.history.CellValue.{CellValue}
use Rattle.replica_core.specs.Shown.{is_true_now, value_now}
use Rattle.replica_core.specs.declared.replica.Replica.{Replica}

abbrev pub truths_now : Setup → Replica → List Atom
truths_now setup r = filter (is_true_now setup.spec r) (atoms setup.spec)

abbrev pub values_now : Setup → Replica → List CellValue
values_now setup r = map (value_now setup.spec r) (cells setup.spec)

-- a cell of the universe fits
pub cell_known : UniverseIsAll → (spec : Spec) (i : ℕ) (cell : Cell) → slice_get (cells spec) i ≡ Some cell → CellFits spec cell
cell_known law spec i cell is = ((law spec).1 cell).those_that_fit.0 (contains_at (cells spec) i cell is)
  where
    get_or_from : (xs : List Cell) (i : ℕ) (x : Cell) → slice_get xs i ≡ Some x → get_or xs i x ≡ x
    get_or_from [] i x is = refl
    get_or_from (y ∷ xs) zero x is = same_Some y x is
    get_or_from (y ∷ xs) (suc i) x is = get_or_from xs i x is

    contains_at : (xs : List Cell) (i : ℕ) (x : Cell) → slice_get xs i ≡ Some x → Contains xs x
    contains_at xs i x is = (i, slice_get_within xs i x is, get_or_from xs i x is)
