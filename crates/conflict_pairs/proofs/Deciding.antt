-- What a decision says of its case.
use Rattle.std.proofs.Common.{◌≡◌, ◌⊎◌, inl, inr, ℕ, Bool, true, false, List, refl, sym, subst, ◌∙◌}
use Rattle.std.specs.Prelude.{◌↔◌}
use Rattle.std.proofs.lemmas.Bool.{cases_Bool, true≢false}
use Rattle.clause_solver.specs.Models.{IsLeastModel, truth_in}
use Rattle.conflict_pairs.specs.Decisions.{IsDecision, IsFound, IsShownBy, ShowsWhy, tells_conflict}
use Rattle.conflict_pairs.specs.declared.decided.Decided.{Decided}
use Rattle.conflict_pairs.specs.declared.decided.Decided.TheVariants.{Model, Opposes as opposing, Refuted}
use Rattle.ground_clauses.proofs.Derives.{no_model}
use Rattle.ground_clauses.proofs.Shown.{model_shows}
use Rattle.ground_clauses.specs.Cases.{cnf_of, target_cnf, touched_by}
use Rattle.ground_clauses.specs.Conflicting.{ClauseViolated, IsConflicting, IsTouchedCase, LockOpposed, Opposes, Violates}
use Rattle.ground_clauses.specs.declared.case.Case.{Case}
use Rattle.ground_clauses.specs.declared.case.Target.{Target}
use Rattle.ground_clauses.specs.declared.case.Target.TheVariants.{Clause as of_clause, Locked as of_pred}
use Rattle.spec_model.specs.declared.spec.Spec.{Spec}

pub decision_tells : (spec : Spec) (k : Case) (d : Decided) → IsTouchedCase spec k → IsDecision spec k d → (tells_conflict d ≡ true) ↔ IsConflicting spec k
decision_tells spec k d touched is = by_target k.target d touched.touched is
  where
    by_target : (t : Target) (d : Decided) → touched_by spec k t ≡ true → IsFound (target_cnf spec k t) t d → (tells_conflict d ≡ true) ↔ (ClauseViolated spec k t ⊎ LockOpposed spec k t)
    by_target (of_pred p) opposing touched is = (λ h. inr touched, λ h. refl)
    by_target (of_pred p) (Model m) touched is = absurd is
    by_target (of_pred p) (Refuted d) touched is = absurd is
    by_target (of_clause t) opposing touched is = absurd is
    by_target (of_clause t) (Model m) touched is = (λ h. inl (truth_in m, is.model.solves), λ h. refl)
    by_target (of_clause t) (Refuted d) touched is = (
      λ h. absurd (true≢false (sym h)),
      λ c. elim c [
        | inl model ↦ absurd (no_model (target_cnf spec k (of_clause t)).clauses d.steps is model.0 model.1)
        | inr none ↦ absurd none
      ],
    )

pub decision_clears : (spec : Spec) (k : Case) (d : Decided) → IsTouchedCase spec k → IsDecision spec k d → (tells_conflict d ≡ false) ↔ (IsConflicting spec k → ⊥)
decision_clears spec k d touched is =
    let tells : (tells_conflict d ≡ true) ↔ IsConflicting spec k = decision_tells spec k d touched is in (
      λ h conflict. true≢false (sym (tells.1 conflict) ∙ h),
      λ none. elim (cases_Bool (tells_conflict d)) [
        | inl told ↦ absurd (none (tells.0 told))
        | inr not_told ↦ not_told
      ],
    )

pub decision_shows : (spec : Spec) (k : Case) (d : Decided) → IsTouchedCase spec k → IsDecision spec k d → ShowsWhy spec k d
decision_shows spec k d touched is = by_target k.target d touched.touched is
  where
    by_target : (t : Target) (d : Decided) → touched_by spec k t ≡ true → IsFound (target_cnf spec k t) t d → IsShownBy spec k t d
    by_target (of_pred p) d touched is = tt
    by_target (of_clause t) opposing touched is = tt
    by_target (of_clause t) (Model m) touched is = model_shows spec k t m touched is.model.solves
    by_target (of_clause t) (Refuted d) touched is = tt

pub model_violates : (spec : Spec) (k : Case) (m : List Bool) → IsDecision spec k (Model m) → Violates spec k × IsLeastModel (cnf_of spec k) m
model_violates spec k m is = by_target k.target is
  where
    by_target : (t : Target) → IsFound (target_cnf spec k t) t (Model m) → ClauseViolated spec k t × IsLeastModel (target_cnf spec k t) m
    by_target (of_pred p) is = absurd is
    by_target (of_clause t) is = ((truth_in m, is.model.solves), is)

-- a locked target, at which no clause is violated
pub record IsLocked (spec : Spec) (k : Case) : Type 0 where
  pub pred : ℕ
  pub target_is : k.target ≡ of_pred pred
  pub opposes : Opposes spec k
  pub harmless : Violates spec k → ⊥

pub opposes_locked : (spec : Spec) (k : Case) → IsTouchedCase spec k → IsDecision spec k opposing → IsLocked spec k
opposes_locked spec k touched is = by_target k.target refl touched.touched is
  where
    by_target : (t : Target) → k.target ≡ t → touched_by spec k t ≡ true → IsFound (target_cnf spec k t) t opposing → IsLocked spec k
    by_target (of_pred p) e touched is = record {
      pred = p;
      target_is = e;
      opposes = subst (LockOpposed spec k) (sym e) touched;
      harmless = λ v. subst (ClauseViolated spec k) e v;
    }
    by_target (of_clause t) e touched is = absurd is
