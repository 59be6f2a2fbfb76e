-- The order in which variables got their values.
use Rattle.std.specs.Prelude.{◌≡◌, ℕ, ◌<◌, ◌≤◌, false, List, [], ◌∷◌, length, replicate, slice_get, Some}
use mathlib.Core.Logic.{◌≢◌}
use Rattle.ground_clauses.specs.declared.clauses.Lit.{Lit}
use Rattle.clause_solver.specs.Assigning.{left, value_at, with_lit}
use Rattle.clause_solver.specs.declared.assignment.Cause.{Cause}
use Rattle.clause_solver.specs.declared.assignment.Cause.TheVariants.{Choice, Row}
use Rattle.clause_solver.specs.declared.assignment.Entry.{Entry}
use Rattle.clause_solver.specs.declared.assignment.Trail.{Trail}
use Rattle.clause_solver.specs.declared.assignment.Value.{Value}
use Rattle.clause_solver.specs.declared.assignment.Value.TheVariants.{Open}

-- nothing is known of so many variables
abbrev pub blank : ℕ → List Value
blank n = replicate n Open

-- false is chosen for a variable once all before it have values; a row forces the one literal that it has left
abbrev pub IsCause : List (List Lit) → List Value → Lit → Cause → Type 0
IsCause rows values x Choice = (x.yes ≡ false) × ((u : ℕ) → u < x.var → value_at values u ≢ Open)
IsCause rows values x (Row r) = (c : List Lit) × (slice_get rows r ≡ Some c) × (left values c ≡ x ∷ [])

-- a literal that may be made true at these values
pub record IsEntry (rows : List (List Lit)) (values : List Value) (e : Entry) : Type 0 where
  pub known : e.lit.var < length values
  pub free : value_at values e.lit.var ≡ Open
  pub cause : IsCause rows values e.lit e.cause

-- entries one after the other, from these values on
abbrev pub Follow : List (List Lit) → List Value → List Entry → Type 0
Follow rows values [] = Unit
Follow rows values (e ∷ es) = IsEntry rows values e × Follow rows (with_lit values e.lit) es

-- the values after these entries
abbrev pub values_after : List Value → List Entry → List Value
values_after values [] = values
values_after values (e ∷ es) = values_after (with_lit values e.lit) es

-- the values are those of the entries, each of which came as it may
pub record IsTrail (rows : List (List Lit)) (t : Trail) : Type 0 where
  pub few : length t.values ≤ 128
  pub values : t.values ≡ values_after (blank (length t.values)) t.entries
  pub follow : Follow rows (blank (length t.values)) t.entries

-- no value is lost
pub record Grows (old new : Trail) : Type 0 where
  pub size : length new.values ≡ length old.values
  pub stays : (u : ℕ) → value_at new.values u ≡ Open → value_at old.values u ≡ Open
