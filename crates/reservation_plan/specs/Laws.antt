-- What the derived plan says of conflicting cases.
use Rattle.std.specs.Prelude.{◌≡◌, ◌≤◌, ◌<◌, ◌↔◌, ℕ, true, ◌++◌, length, Contains}
use Rattle.ground_clauses.specs.Cases.{pair_cases, touched_cases}
use Rattle.ground_clauses.specs.Counting.{case_count}
use Rattle.ground_clauses.specs.Conflicting.{IsConflicting, IsTouchedCase}
use Rattle.ground_clauses.specs.declared.case.Case.{Case}
use Rattle.reservation_plan.specs.Conflicts.{is_conflicting}
use Rattle.reservation_plan.specs.Derived.{derived_plan}
use Rattle.spec_model.specs.Fits.{IsWellFormed}
use Rattle.spec_model.specs.declared.plan.LockKind.{LockKind}
use Rattle.spec_model.specs.declared.plan.Plan.{Plan}
use Rattle.spec_model.specs.declared.spec.Spec.{Spec}

-- To try all truths of a query's variables tells exactly the conflicting cases.
abbrev pub TellsConflicts : Type 0
TellsConflicts = (spec : Spec) (k : Case) → IsTouchedCase spec k → (is_conflicting spec k ≡ true) ↔ IsConflicting spec k

-- a lock or a partition names two operations
pub record Reserves (plan : Plan) (a b : ℕ) : Type 0 where
  pub kind : LockKind
  pub stands : Contains (plan.locks ++ plan.parts) kind
  pub a_is : kind.a ≡ a
  pub b_is : kind.b ≡ b

-- some case of two operations is conflicting
pub record InConflict (spec : Spec) (a b : ℕ) : Type 0 where
  pub case : Case
  pub stands : Contains (pair_cases spec a b) case
  pub conflicting : IsConflicting spec case

-- The derived plan has a reservation for two operations exactly where some case of theirs is conflicting.
abbrev pub ReservesConflicts : Type 0
ReservesConflicts = (spec : Spec) (a b : ℕ) → IsWellFormed spec → a ≤ b → b < length spec.ops → Reserves (derived_plan spec) a b ↔ InConflict spec a b

-- The touched cases are no more than all that are counted.
abbrev pub TouchedAreCounted : Type 0
TouchedAreCounted = (spec : Spec) → IsWellFormed spec → length (touched_cases spec) ≤ case_count spec
