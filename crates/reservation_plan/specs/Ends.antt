-- Where an analysis ends without a plan.
use Rattle.std.specs.Prelude.{◌≡◌, ℕ, ◌<◌, ◌≤◌, Bool, false, ◌&&◌, ◌||◌, eqb, ltb, List, Option, Some, None}
use Rattle.std.specs.List.{list_any, find}
use Rattle.clause_solver.specs.Models.{IsLeastModel}
use Rattle.ground_clauses.specs.Cases.{clause_cnf, cnf_of, touched_cases}
use Rattle.ground_clauses.specs.Counting.{case_count}
use Rattle.ground_clauses.specs.declared.case.Case.{Case}
use Rattle.ground_clauses.specs.declared.case.Target.{Target}
use Rattle.ground_clauses.specs.declared.case.Target.TheVariants.{Clause as of_clause, Locked as of_pred}
use Rattle.reservation_plan.specs.Conflicts.{is_conflicting}
use Rattle.reservation_plan.specs.declared.analysed.DeriveError.{DeriveError}
use Rattle.reservation_plan.specs.declared.analysed.DeriveError.TheVariants.{Memory, Rejected, TooHard, TooManyCases}
use Rattle.spec_model.specs.declared.plan.Pair.{Pair}
use Rattle.spec_model.specs.declared.spec.Spec.{Spec}

abbrev pub joins : ℕ → ℕ → Pair → Bool
joins a b p = (eqb p.a a && eqb p.b b) || (eqb p.a b && eqb p.b a)

-- the author declares two operations free of conflicts, in one order or the other
abbrev pub is_declared_free : Spec → ℕ → ℕ → Bool
is_declared_free spec a b = list_any (joins a b) spec.free

-- the query has more than 128 variables
abbrev pub is_hard : Spec → Case → Bool
is_hard spec k = ltb 128 (cnf_of spec k).vars

-- the query is too large, or the case is conflicting and its operations are declared free
abbrev pub ends : Spec → Case → Bool
ends spec k = is_hard spec k || (is_declared_free spec k.a k.b && is_conflicting spec k)

-- the least model of a clause's query; none for a locked predicate
abbrev pub ModelAt : Spec → Case → Target → Option (List Bool) → Type 0
ModelAt spec k (of_clause t) None = ⊥
ModelAt spec k (of_clause t) (Some m) = IsLeastModel (clause_cnf spec k t) m
ModelAt spec k (of_pred p) None = Unit {0}
ModelAt spec k (of_pred p) (Some m) = ⊥

-- the first of these cases at which an analysis ends isn't too large, and this is its model
pub record IsRejected (spec : Spec) (ks : List Case) (k : Case) (m : Option (List Bool)) : Type 0 where
  pub first : find (ends spec) ks ≡ Some k
  pub small : is_hard spec k ≡ false
  pub model : ModelAt spec k k.target m

-- the first of these cases at which an analysis ends has so many variables
pub record IsTooHard (spec : Spec) (ks : List Case) (n : ℕ) : Type 0 where
  pub case : Case
  pub first : find (ends spec) ks ≡ Some case
  pub many : 128 < n
  pub variables : n ≡ (cnf_of spec case).vars

-- why these cases, in this order, give no plan
abbrev pub Refuses : Spec → List Case → DeriveError → Type 0
Refuses spec ks (TooManyCases n) = ⊥
Refuses spec ks (Rejected k m) = IsRejected spec ks k m
Refuses spec ks (TooHard n) = IsTooHard spec ks n
Refuses spec ks Memory = Unit {0}

-- the cause of a refusal: too many cases, before all others, or what the touched cases refuse
abbrev pub HasCause : Spec → DeriveError → Type 0
HasCause spec (TooManyCases n) = (100000 < n) × (n ≡ case_count spec)
HasCause spec (Rejected k m) = (case_count spec ≤ 100000) × Refuses spec (touched_cases spec) (Rejected k m)
HasCause spec (TooHard n) = (case_count spec ≤ 100000) × Refuses spec (touched_cases spec) (TooHard n)
HasCause spec Memory = Unit {0}
