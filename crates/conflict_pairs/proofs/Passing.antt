-- Going over the cases of two operations until one decides.
use Rattle.std.proofs.Common.{◌≡◌, ◌⊎◌, inl, inr, ℕ, Bool, List, [], ◌∷◌, ◌++◌, refl, sym, ap, subst, append_assoc, append-nil, ◌∙◌}
use Rattle.std.specs.Prelude.{Some, None, Option, Err, Result}
use Rattle.std.specs.List.{AllByRecursion}
use Rattle.clause_solver.specs.Models.{IsLeastModel}
use Rattle.conflict_pairs.proofs.Deciding.{IsLocked, decision_clears, model_violates, opposes_locked}
use Rattle.conflict_pairs.specs.Decisions.{IsDecision, IsHard}
use Rattle.conflict_pairs.specs.Kinds.{IsFirst, IsStuck, IsViolating, NoneIs}
use Rattle.conflict_pairs.specs.Turns.{opposing_after, turn_of}
use Rattle.conflict_pairs.specs.declared.decided.Decided.{Decided}
use Rattle.conflict_pairs.specs.declared.decided.Decided.TheVariants.{Model, Opposes as opposing, Refuted}
use Rattle.conflict_pairs.specs.declared.pair_kind.Turn.TheVariants.{Ends, Goes}
use Rattle.ground_clauses.proofs.Lists.{each_append, each_both, each_weaker}
use Rattle.ground_clauses.specs.Cases.{cnf_of}
use Rattle.ground_clauses.specs.Conflicting.{IsConflicting, IsTouchedCase, Opposes, Violates}
use Rattle.ground_clauses.specs.declared.case.Case.{Case}
use Rattle.ground_clauses.specs.declared.case.Target.TheVariants.{Locked as of_pred}
use Rattle.spec_model.specs.declared.spec.Spec.{Spec}

-- ---- the first of a list

first_front : {X : Type 0} (P : X → Type 0) (x : X) (xs ys : List X) → IsFirst P x xs → IsFirst P x (xs ++ ys)
first_front P x [] ys h = absurd h
first_front P x (y ∷ xs) ys (inl here) = inl here
first_front P x (y ∷ xs) ys (inr there) = inr (there.0, first_front P x xs ys there.1)

first_behind : {X : Type 0} (P : X → Type 0) (x : X) (xs ys : List X) → NoneIs P xs → IsFirst P x ys → IsFirst P x (xs ++ ys)
first_behind P x [] ys none h = h
first_behind P x (y ∷ xs) ys none h = inr (none.0, first_behind P x xs ys none.1 h)

first_left : {X : Type 0} (P : X → Type 0) (x : X) (xs ys : List X) → NoneIs P xs → IsFirst P x (xs ++ ys) → IsFirst P x ys
first_left P x [] ys none h = h
first_left P x (y ∷ xs) ys none (inl here) = absurd (none.0 here.1)
first_left P x (y ∷ xs) ys none (inr there) = first_left P x xs ys none.1 there.1

-- ---- cases that are passed

-- the first predicate on which one of these cases opposes, if one does
abbrev pub IsOpposed : Spec → List Case → Option ℕ → Type 0
IsOpposed spec cases None = NoneIs (Opposes spec) cases
IsOpposed spec cases (Some p) = (k : Case) × IsFirst (Opposes spec) k cases × (k.target ≡ of_pred p)

-- the cases before those that are left have few variables and no model
pub record IsPassing (spec : Spec) (all : List Case) (found : Option ℕ) (left : List Case) : Type 0 where
  pub done : List Case
  pub whole : all ≡ done ++ left
  pub easy : NoneIs (IsHard spec) done
  pub harmless : NoneIs (Violates spec) done
  pub opposed : IsOpposed spec done found
  pub touched : AllByRecursion (IsTouchedCase spec) left

pub passing_first : (spec : Spec) (all : List Case) → AllByRecursion (IsTouchedCase spec) all → IsPassing spec all None all
passing_first spec all h = record { done = []; whole = refl; easy = tt; harmless = tt; opposed = tt; touched = h }

one_more : (all done left : List Case) (k : Case) → all ≡ done ++ k ∷ left → all ≡ (done ++ k ∷ []) ++ left
one_more all done left k is = is ∙ sym (append_assoc done (k ∷ []) left)

none_more : (P : Case → Type 0) (done : List Case) (k : Case) → NoneIs P done → (P k → ⊥) → NoneIs P (done ++ k ∷ [])
none_more P done k none not_here = each_append (λ x. P x → ⊥) done (k ∷ []) none (not_here, tt)

pub passes_harmless : (spec : Spec) (all : List Case) (found : Option ℕ) (k : Case) (left : List Case) → IsPassing spec all found (k ∷ left)
    → (IsHard spec k → ⊥) → (IsConflicting spec k → ⊥) → IsPassing spec all found left
passes_harmless spec all found k left h easy none = record {
  done = h.done ++ k ∷ [];
  whole = one_more all h.done left k h.whole;
  easy = none_more (IsHard spec) h.done k h.easy easy;
  harmless = none_more (Violates spec) h.done k h.harmless (λ v. none (inl v));
  opposed = by_found found h.opposed;
  touched = h.touched.1;
}
  where
    by_found : (found : Option ℕ) → IsOpposed spec h.done found → IsOpposed spec (h.done ++ k ∷ []) found
    by_found None o = none_more (Opposes spec) h.done k o (λ v. none (inr v))
    by_found (Some p) o = (o.0, first_front (Opposes spec) o.0 h.done (k ∷ []) o.1, o.2)

pub passes_opposing : (spec : Spec) (all : List Case) (found : Option ℕ) (k : Case) (left : List Case) → IsPassing spec all found (k ∷ left)
    → (IsHard spec k → ⊥) → IsLocked spec k → IsPassing spec all (opposing_after found k.target) left
passes_opposing spec all found k left h easy locked = record {
  done = h.done ++ k ∷ [];
  whole = one_more all h.done left k h.whole;
  easy = none_more (IsHard spec) h.done k h.easy easy;
  harmless = none_more (Violates spec) h.done k h.harmless locked.harmless;
  opposed = subst (λ t. IsOpposed spec (h.done ++ k ∷ []) (opposing_after found t)) (sym locked.target_is) (by_found found h.opposed);
  touched = h.touched.1;
}
  where
    by_found : (found : Option ℕ) → IsOpposed spec h.done found → IsOpposed spec (h.done ++ k ∷ []) (opposing_after found (of_pred locked.pred))
    by_found None o = (k, first_behind (Opposes spec) k h.done (k ∷ []) o (inl (refl, locked.opposes)), locked.target_is)
    by_found (Some p) o = (o.0, first_front (Opposes spec) o.0 h.done (k ∷ []) o.1, o.2)

pub passes_on : (spec : Spec) (all : List Case) (found : Option ℕ) (old : List Case) (k : Case) (left : List Case) (d : Decided) (next : Option ℕ) → IsPassing spec all found old → old ≡ k ∷ left
    → (IsHard spec k → ⊥) → IsDecision spec k d → Goes next ≡ turn_of found k.target d → IsPassing spec all next left
passes_on spec all found old k left d next h steps easy is turn = by_found d is turn
  where
    here : IsPassing spec all found (k ∷ left)
    here = subst (IsPassing spec all found) steps h

    by_found : (d : Decided) → IsDecision spec k d → Goes next ≡ turn_of found k.target d → IsPassing spec all next left
    by_found (Model m) is turn = absurd cc
    by_found (Refuted d) is turn =
        let same : next ≡ found = cc in
        subst (λ o. IsPassing spec all o left) (sym same) (passes_harmless spec all found k left here easy ((decision_clears spec k (Refuted d) here.touched.0 is).0 refl))
    by_found opposing is turn =
        let same : next ≡ opposing_after found k.target = cc in
        subst (λ o. IsPassing spec all o left) (sym same) (passes_opposing spec all found k left here easy (opposes_locked spec k here.touched.0 is))

-- ---- the ends

pub ends_model : (spec : Spec) (found : Option ℕ) (k : Case) (d : Decided) (model : List Bool) → IsDecision spec k d → Ends model ≡ turn_of found k.target d
    → Violates spec k × IsLeastModel (cnf_of spec k) model
ends_model spec found k (Model m) model is turn =
    let same : model ≡ m = cc in
    subst (λ w. Violates spec k × IsLeastModel (cnf_of spec k) w) (sym same) (model_violates spec k m is)
ends_model spec found k (Refuted d) model is turn = absurd cc
ends_model spec found k opposing model is turn = absurd cc

pub ends_violating : (spec : Spec) (all : List Case) (found : Option ℕ) (old : List Case) (k : Case) (left : List Case) (d : Decided) (model : List Bool) → IsPassing spec all found old → old ≡ k ∷ left
    → IsDecision spec k d → Ends model ≡ turn_of found k.target d → IsViolating spec all k model
ends_violating spec all found old k left d model h steps is turn = record {
  touched = here.touched.0;
  first = subst (IsFirst (Violates spec) k) (sym here.whole) (first_behind (Violates spec) k here.done (k ∷ left) here.harmless (inl (refl, (ends_model spec found k d model is turn).0)));
  least = (ends_model spec found k d model is turn).1;
}
  where
    here : IsPassing spec all found (k ∷ left)
    here = subst (IsPassing spec all found) steps h

all_passed : (all done : List Case) → all ≡ done ++ [] → done ≡ all
all_passed all done is = sym (is ∙ append-nil done)

pub ends_free : (spec : Spec) (all : List Case) → IsPassing spec all None [] → NoneIs (IsConflicting spec) all
ends_free spec all h =
    subst (NoneIs (IsConflicting spec)) (all_passed all h.done h.whole)
    (each_weaker (λ k. (Violates spec k → ⊥) × (Opposes spec k → ⊥)) (λ k. IsConflicting spec k → ⊥) h.done (λ k n c. neither k n c)
    (each_both (λ k. Violates spec k → ⊥) (λ k. Opposes spec k → ⊥) h.done h.harmless h.opposed))
  where
    neither : (k : Case) → (Violates spec k → ⊥) × (Opposes spec k → ⊥) → IsConflicting spec k → ⊥
    neither k n (inl v) = n.0 v
    neither k n (inr o) = n.1 o

-- ---- a query that is too hard

abbrev Decides : Spec → Case → Type 0
Decides spec k = IsHard spec k ⊎ Violates spec k

none_decides : (spec : Spec) (done : List Case) → NoneIs (IsHard spec) done → NoneIs (Violates spec) done → NoneIs (Decides spec) done
none_decides spec done easy harmless =
    each_weaker (λ k. (IsHard spec k → ⊥) × (Violates spec k → ⊥)) (λ k. Decides spec k → ⊥) done (λ k n d. neither k n d)
    (each_both (λ k. IsHard spec k → ⊥) (λ k. Violates spec k → ⊥) done easy harmless)
  where
    neither : (k : Case) → (IsHard spec k → ⊥) × (Violates spec k → ⊥) → Decides spec k → ⊥
    neither k n (inl v) = n.0 v
    neither k n (inr o) = n.1 o

pub ends_stuck : (spec : Spec) (all : List Case) (found : Option ℕ) (old : List Case) (k : Case) (left : List Case) (n : ℕ) → IsPassing spec all found old → old ≡ k ∷ left
    → IsHard spec k × (n ≡ (cnf_of spec k).vars) → IsStuck spec all n
ends_stuck spec all found old k left n h steps hard = record {
  case = k;
  first = subst (IsFirst (Decides spec) k) (sym here.whole) (first_behind (Decides spec) k here.done (k ∷ left) (none_decides spec here.done here.easy here.harmless) (inl (refl, inl hard.0)));
  hard = hard.0;
  count = hard.1;
}
  where
    here : IsPassing spec all found (k ∷ left)
    here = subst (IsPassing spec all found) steps h

pub violating_easy : (spec : Spec) (all : List Case) (found : Option ℕ) (old : List Case) (k : Case) (left : List Case) (d : Decided) (model : List Bool) (n : ℕ) → IsPassing spec all found old → old ≡ k ∷ left
    → (IsHard spec k → ⊥) → IsDecision spec k d → Ends model ≡ turn_of found k.target d → IsStuck spec all n → ⊥
violating_easy spec all found old k left d model n h steps easy is turn stuck =
    let here : IsPassing spec all found (k ∷ left) = subst (IsPassing spec all found) steps h in
    elim (first_left (Decides spec) stuck.case here.done (k ∷ left) (none_decides spec here.done here.easy here.harmless) (subst (IsFirst (Decides spec) stuck.case) here.whole stuck.first)) [
      | inl first ↦ easy (subst (IsHard spec) first.0 stuck.hard)
      | inr behind ↦ behind.0 (inr (ends_model spec found k d model is turn).0)
    ]

pub passed_easy : (spec : Spec) (all : List Case) (found : Option ℕ) (old : List Case) (n : ℕ) → IsPassing spec all found old → old ≡ [] → IsStuck spec all n → ⊥
passed_easy spec all found old n h none stuck =
    let here : IsPassing spec all found [] = subst (IsPassing spec all found) none h in
    first_left (Decides spec) stuck.case here.done [] (none_decides spec here.done here.easy here.harmless) (subst (IsFirst (Decides spec) stuck.case) here.whole stuck.first)

-- an error that is handed on is the one that came
pub handed_on : {A B E : Type 0} (r : Result A E) (d : Result B E) (x f n : E) → r ≡ Err x → x ≡ f → d ≡ Err f → r ≡ Err n → d ≡ Err n
handed_on {A = A} {E = E} r d x f n made same came is =
    let both : ◌≡◌ {A = Result A E} (Err x) (Err n) = sym made ∙ is in
    let one : x ≡ n = cc in
    came ∙ ap Err (sym same ∙ one)
