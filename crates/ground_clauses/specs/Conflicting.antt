-- Which cases are conflicting: together the two operations can do what neither does alone.
use Rattle.std.specs.Prelude.{◌≡◌, ◌⊎◌, ℕ, Bool, true, List}
use Rattle.ground_clauses.specs.Cases.{is_touched_case, opposes, query_of}
use Rattle.ground_clauses.specs.Derivations.{Solves}
use Rattle.ground_clauses.specs.Listing.{CaseFits}
use Rattle.ground_clauses.specs.declared.case.Case.{Case}
use Rattle.ground_clauses.specs.declared.case.Target.{Target}
use Rattle.ground_clauses.specs.declared.case.Target.TheVariants.{Clause as of_clause, Locked as of_pred}
use Rattle.ground_clauses.specs.declared.clauses.Lit.{Lit}
use Rattle.spec_model.specs.declared.spec.Spec.{Spec}

-- a touched case of declared operations and a declared target
pub record IsTouchedCase (spec : Spec) (k : Case) : Type 0 where
  pub fits : CaseFits spec k
  pub touched : is_touched_case spec k ≡ true

-- some values make each clause true
abbrev pub HasModel : List (List Lit) → Type 0
HasModel clauses = (v : ℕ → Bool) × Solves v clauses

abbrev pub ClauseViolated : Spec → Case → Target → Type 0
ClauseViolated spec k (of_clause t) = HasModel (query_of spec k t)
ClauseViolated spec k (of_pred p) = ⊥

abbrev pub LockOpposed : Spec → Case → Target → Type 0
LockOpposed spec k (of_clause t) = ⊥
LockOpposed spec k (of_pred p) = opposes spec k p ≡ true

-- the target is a clause, and the query has a model
abbrev pub Violates : Spec → Case → Type 0
Violates spec k = ClauseViolated spec k k.target

-- the target is a locked predicate, and the two give its atom opposite truths
abbrev pub Opposes : Spec → Case → Type 0
Opposes spec k = LockOpposed spec k k.target

-- its query has a model, or it opposes on a locked predicate
abbrev pub IsConflicting : Spec → Case → Type 0
IsConflicting spec k = Violates spec k ⊎ Opposes spec k
