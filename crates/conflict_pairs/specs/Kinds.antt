-- What two operations do to one another, by their touched cases in canonical order.
use Rattle.std.specs.Prelude.{◌≡◌, ◌⊎◌, ℕ, Bool, List, [], ◌∷◌}
use Rattle.std.specs.List.{AllByRecursion}
use Rattle.clause_solver.specs.Models.{IsLeastModel}
use Rattle.conflict_pairs.specs.Decisions.{IsHard}
use Rattle.conflict_pairs.specs.declared.pair_kind.PairKind.{PairKind}
use Rattle.conflict_pairs.specs.declared.pair_kind.PairKind.TheVariants.{Violating, Opposing, Free}
use Rattle.ground_clauses.specs.Cases.{cnf_of, pair_cases}
use Rattle.ground_clauses.specs.Conflicting.{IsConflicting, IsTouchedCase, Opposes, Violates}
use Rattle.ground_clauses.specs.declared.case.Case.{Case}
use Rattle.ground_clauses.specs.declared.case.Target.TheVariants.{Locked as of_pred}
use Rattle.spec_model.specs.declared.spec.Spec.{Spec}

-- the first element of a list with this property
abbrev pub IsFirst : {X : Type 0} → (X → Type 0) → X → List X → Type 0
IsFirst P x [] = ⊥
IsFirst P x (y ∷ ys) = ((x ≡ y) × P y) ⊎ ((P y → ⊥) × IsFirst P x ys)

-- no element of a list has this property
abbrev pub NoneIs : {X : Type 0} → (X → Type 0) → List X → Type 0
NoneIs P xs = AllByRecursion (λ x. P x → ⊥) xs

-- the first case that has a model, with its least one
pub record IsViolating (spec : Spec) (cases : List Case) (k : Case) (model : List Bool) : Type 0 where
  pub touched : IsTouchedCase spec k
  pub first : IsFirst (Violates spec) k cases
  pub least : IsLeastModel (cnf_of spec k) model

-- no case has a model, and the first that opposes does so on this predicate
pub record IsOpposing (spec : Spec) (cases : List Case) (p : ℕ) : Type 0 where
  pub harmless : NoneIs (Violates spec) cases
  pub case : Case
  pub first : IsFirst (Opposes spec) case cases
  pub pred : case.target ≡ of_pred p

abbrev pub IsKindOf : Spec → List Case → PairKind → Type 0
IsKindOf spec cases (Violating k model) = IsViolating spec cases k model
IsKindOf spec cases (Opposing p) = IsOpposing spec cases p
IsKindOf spec cases Free = NoneIs (IsConflicting spec) cases

-- what the two operations do to one another
abbrev pub IsKind : Spec → ℕ → ℕ → PairKind → Type 0
IsKind spec a b kind = IsKindOf spec (pair_cases spec a b) kind

-- a query has more than 128 variables, that many, and no earlier case has a model
pub record IsStuck (spec : Spec) (cases : List Case) (n : ℕ) : Type 0 where
  pub case : Case
  pub first : IsFirst (λ k. IsHard spec k ⊎ Violates spec k) case cases
  pub hard : IsHard spec case
  pub count : n ≡ (cnf_of spec case).vars
