-- What the search for a model keeps, and what it finds.
use Rattle.std.specs.Prelude.{◌≡◌, ℕ, ◌<◌, List, [], slice_get, Some}
use mathlib.Core.Logic.{◌≢◌}
use Rattle.ground_clauses.specs.declared.clauses.Lit.{Lit}
use Rattle.clause_solver.specs.Assigning.{left, value_at}
use Rattle.clause_solver.specs.Trails.{Grows, IsTrail}
use Rattle.clause_solver.specs.declared.assignment.Trail.{Trail}
use Rattle.clause_solver.specs.declared.assignment.Value.{Value}
use Rattle.clause_solver.specs.declared.assignment.Value.TheVariants.{Open}

-- literals were made true as they may be, and none was taken back
pub record Moves (rows : List (List Lit)) (old new : Trail) : Type 0 where
  pub trail : IsTrail rows new
  pub grows : Grows old new

-- a row all of whose literals are false
abbrev pub IsConflict : List (List Lit) → List Value → ℕ → Type 0
IsConflict rows values r = (c : List Lit) × (slice_get rows r ≡ Some c) × (left values c ≡ [])

-- every variable before this one has a value
abbrev pub KnownBelow : ℕ → List Value → Type 0
KnownBelow n values = (u : ℕ) → u < n → value_at values u ≢ Open
