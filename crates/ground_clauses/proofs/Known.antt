-- The cases of declared operations are about declared targets.
use Rattle.std.proofs.Common.{◌≡◌, zero, refl, Bool, List, [], ap, arith, cond, eqb, false, get_or, length, length-append, map, max, min, suc, true, ℕ, ◌++◌, ◌+◌, ◌<◌, ◌∷◌, ◌≤◌}
use Rattle.std.proofs.lemmas.List.{length-map}
use Rattle.std.specs.List.{AllByRecursion, filter, flat_map}
use Rattle.ground_clauses.proofs.Hypotheses.{each_upto}
use Rattle.ground_clauses.proofs.Lists.{each_append, each_both, each_filter, each_flat_map, each_map, each_weaker}
use Rattle.ground_clauses.proofs.Reaches.{few_plain, few_vars_in}
use Rattle.ground_clauses.specs.Cases.{TargetKnown, bit_lists, case_at, class_cases, class_count, class_lists, clause_targets, grown, interval_classes, is_touched_case, pair_cases, pattern_sorts, plain_sorts, pred_targets, target_cases, target_sorts, targets, upto_from}
use Rattle.ground_clauses.specs.Conflicting.{IsTouchedCase}
use Rattle.ground_clauses.specs.Listing.{CaseFits, RisesFrom}
use Rattle.ground_clauses.specs.declared.case.Target.{Target}
use Rattle.ground_clauses.specs.declared.case.Target.TheVariants.{Clause as of_clause, Locked as of_pred}
use Rattle.spec_model.specs.Fits.{IsWellFormed, PredFits}
use Rattle.spec_model.specs.Truths.{clause_in, no_pred, op_at, rule_locks, size_of, var_sorts}
use Rattle.spec_model.specs.declared.clause.Clause.{Clause}
use Rattle.spec_model.specs.declared.spec.Pred.{Pred}
use Rattle.spec_model.specs.declared.spec.Spec.{Spec}

each_always : {X : Type 0} (P : X → Type 0) (xs : List X) → ((x : X) → P x) → AllByRecursion P xs
each_always P [] f = tt
each_always P (x ∷ xs) f = (f x, each_always P xs f)

-- ---- class lists

abbrev AreNumbered : List ℕ → ℕ → List ℕ → Type 0
AreNumbered sorts k cs = RisesFrom k cs × (length cs ≡ length sorts)

lists_numbered : (size used : ℕ → ℕ) (sorts : List ℕ) (k : ℕ) → ((z : ℕ) → used z ≤ k) → AllByRecursion (AreNumbered sorts k) (class_lists size used sorts)
lists_numbered size used [] k h = ((tt, refl), tt)
lists_numbered size used (s ∷ sorts) k h =
    each_flat_map (AreNumbered (s ∷ sorts) k) (λ c. map (λ cs. c ∷ cs) (class_lists size (grown used s c) sorts)) (upto_from 0 (min (size s) (suc (used s))))
    (each_weaker (λ c. c < 0 + min (size s) (suc (used s))) (λ c. AllByRecursion (AreNumbered (s ∷ sorts) k) (map (λ cs. c ∷ cs) (class_lists size (grown used s c) sorts))) (upto_from 0 (min (size s) (suc (used s))))
    (λ c lt.
    let most : used s ≤ k = h s in
    let le : c ≤ k = omega arith in
    each_map (AreNumbered (s ∷ sorts) k) (λ cs. c ∷ cs) (class_lists size (grown used s c) sorts)
    (each_weaker (AreNumbered sorts (suc k)) (λ cs. AreNumbered (s ∷ sorts) k (c ∷ cs)) (class_lists size (grown used s c) sorts)
    (λ cs n. ((le, n.0), ap suc n.1)) (lists_numbered size (grown used s c) sorts (suc k) (λ z. grown_small s c z le (h z)))))
    (each_upto 0 (min (size s) (suc (used s)))))
  where
    grown_small : (s c z : ℕ) → c ≤ k → used z ≤ k → grown used s c z ≤ suc k
    grown_small s c z le hz = by_sort (eqb s z)
      where
        by_sort : (b : Bool) → cond b (max (suc c) (used z)) (used z) ≤ suc k
        by_sort true = omega arith
        by_sort false = omega arith

few_places_at : (spec : Spec) (preds : List Pred) (i : ℕ) → AllByRecursion (PredFits spec) preds → length (get_or preds i no_pred).sorts ≤ 4
few_places_at spec [] i h = omega arith
few_places_at spec (p ∷ preds) zero h = let few : length p.sorts ≤ 3 = h.0.few_places in omega arith
few_places_at spec (p ∷ preds) (suc i) h = few_places_at spec preds i h.1

few_target : (spec : Spec) (t : Target) → IsWellFormed spec → length (target_sorts spec t) ≤ 4
few_target spec (of_clause i) wf =
    let same_length : length (var_sorts (clause_in spec i)) ≡ length (clause_in spec i).vars = length-map (clause_in spec i).vars (λ v. v.sort) in
    let few : length (clause_in spec i).vars ≤ 4 = few_vars_in spec i wf in
    omega arith
few_target spec (of_pred p) wf = few_places_at spec spec.preds p wf.preds

few_pattern : (spec : Spec) (a b : ℕ) (t : Target) → IsWellFormed spec → length (pattern_sorts spec a b t) ≤ 12
few_pattern spec a b t wf =
    let x : length (plain_sorts (op_at spec a).params) ≤ 4 = few_plain spec a wf in
    let y : length (plain_sorts (op_at spec b).params) ≤ 4 = few_plain spec b wf in
    let z : length (target_sorts spec t) ≤ 4 = few_target spec t wf in
    let outer : length (pattern_sorts spec a b t) ≡ length (plain_sorts (op_at spec a).params) + length (plain_sorts (op_at spec b).params ++ target_sorts spec t) =
    length-append (plain_sorts (op_at spec a).params) (plain_sorts (op_at spec b).params ++ target_sorts spec t) in
    let inner : length (plain_sorts (op_at spec b).params ++ target_sorts spec t) ≡ length (plain_sorts (op_at spec b).params) + length (target_sorts spec t) =
    length-append (plain_sorts (op_at spec b).params) (target_sorts spec t) in
    omega arith

-- ---- cases

bits_known : (spec : Spec) (a b : ℕ) (t : Target) (cs : List ℕ) → length (pattern_sorts spec a b t) ≤ 12 → a < length spec.ops → b < length spec.ops → TargetKnown spec t
    → AreNumbered (pattern_sorts spec a b t) 0 cs → AllByRecursion (CaseFits spec) (class_cases spec a b t cs)
bits_known spec a b t cs small la lb lt numbers =
    let same_length : length cs ≡ length (pattern_sorts spec a b t) = numbers.1 in
    let few_here : length cs ≤ 12 = omega arith in
    each_flat_map (CaseFits spec) (λ ba. map (λ bb. case_at a b t cs ba bb) (bit_lists (interval_classes (class_count (pattern_sorts spec a b t) cs) (op_at spec b).params)))
    (bit_lists (interval_classes (class_count (pattern_sorts spec a b t) cs) (op_at spec a).params))
    (each_always (λ ba. AllByRecursion (CaseFits spec) (map (λ bb. case_at a b t cs ba bb) (bit_lists (interval_classes (class_count (pattern_sorts spec a b t) cs) (op_at spec b).params))))
    (bit_lists (interval_classes (class_count (pattern_sorts spec a b t) cs) (op_at spec a).params))
    (λ ba. each_map (CaseFits spec) (λ bb. case_at a b t cs ba bb) (bit_lists (interval_classes (class_count (pattern_sorts spec a b t) cs) (op_at spec b).params))
    (each_always (λ bb. CaseFits spec (case_at a b t cs ba bb)) (bit_lists (interval_classes (class_count (pattern_sorts spec a b t) cs) (op_at spec b).params))
    (λ bb. record { known = record { known_a = la; known_b = lb; known_target = lt }; whole = numbers.1; rises = numbers.0; few = few_here }))))

target_known : (spec : Spec) (a b : ℕ) (t : Target) → IsWellFormed spec → a < length spec.ops → b < length spec.ops → TargetKnown spec t → AllByRecursion (CaseFits spec) (target_cases spec a b t)
target_known spec a b t wf la lb lt =
    let small : length (pattern_sorts spec a b t) ≤ 12 = few_pattern spec a b t wf in
    each_flat_map (CaseFits spec) (class_cases spec a b t) (class_lists (size_of spec) (λ z. 0) (pattern_sorts spec a b t))
    (each_weaker (AreNumbered (pattern_sorts spec a b t) 0) (λ cs. AllByRecursion (CaseFits spec) (class_cases spec a b t cs)) (class_lists (size_of spec) (λ z. 0) (pattern_sorts spec a b t))
    (λ cs numbers. bits_known spec a b t cs small la lb lt numbers) (lists_numbered (size_of spec) (λ z. 0) (pattern_sorts spec a b t) 0 (λ z. omega arith)))

clauses_known : (spec : Spec) (i : ℕ) (clauses : List Clause) → i + length clauses ≤ length spec.clauses → AllByRecursion (TargetKnown spec) (clause_targets i clauses)
clauses_known spec i [] le = tt
clauses_known spec i (c ∷ clauses) le = by_mask c.mask (clauses_known spec (suc i) clauses (omega arith)) (let z : i < length spec.clauses = omega arith in z)
  where
    by_mask : (b : Bool) → AllByRecursion (TargetKnown spec) (clause_targets (suc i) clauses) → i < length spec.clauses → AllByRecursion (TargetKnown spec) (cond b (clause_targets (suc i) clauses) (of_clause i ∷ clause_targets (suc i) clauses))
    by_mask true h lt = h
    by_mask false h lt = (lt, h)

preds_known : (spec : Spec) (i : ℕ) (preds : List Pred) → i + length preds ≤ length spec.preds → AllByRecursion (TargetKnown spec) (pred_targets i preds)
preds_known spec i [] le = tt
preds_known spec i (p ∷ preds) le = by_rule (rule_locks p.rule) (preds_known spec (suc i) preds (omega arith)) (let z : i < length spec.preds = omega arith in z)
  where
    by_rule : (b : Bool) → AllByRecursion (TargetKnown spec) (pred_targets (suc i) preds) → i < length spec.preds → AllByRecursion (TargetKnown spec) (cond b (of_pred i ∷ pred_targets (suc i) preds) (pred_targets (suc i) preds))
    by_rule true h lt = (lt, h)
    by_rule false h lt = h

pub pair_known : (spec : Spec) (a b : ℕ) → IsWellFormed spec → a < length spec.ops → b < length spec.ops → AllByRecursion (CaseFits spec) (pair_cases spec a b)
pair_known spec a b wf la lb =
    each_filter (CaseFits spec) (is_touched_case spec) (flat_map (target_cases spec a b) (targets spec))
    (each_flat_map (CaseFits spec) (target_cases spec a b) (targets spec)
    (each_weaker (TargetKnown spec) (λ t. AllByRecursion (CaseFits spec) (target_cases spec a b t)) (targets spec) (λ t lt. target_known spec a b t wf la lb lt)
    (each_append (TargetKnown spec) (clause_targets 0 spec.clauses) (pred_targets 0 spec.preds) (clauses_known spec 0 spec.clauses (omega arith)) (preds_known spec 0 spec.preds (omega arith)))))

each_passes : {X : Type 0} (t : X → Bool) (xs : List X) → AllByRecursion (λ x. t x ≡ true) (filter t xs)
each_passes t [] = tt
each_passes t (x ∷ xs) = by_test (t x) refl (each_passes t xs)
  where
    by_test : (b : Bool) → t x ≡ b → AllByRecursion (λ y. t y ≡ true) (filter t xs) → AllByRecursion (λ y. t y ≡ true) (cond b (x ∷ filter t xs) (filter t xs))
    by_test true is h = (is, h)
    by_test false is h = h

pub pair_touched : (spec : Spec) (a b : ℕ) → IsWellFormed spec → a < length spec.ops → b < length spec.ops → AllByRecursion (IsTouchedCase spec) (pair_cases spec a b)
pair_touched spec a b wf la lb =
    each_weaker (λ k. CaseFits spec k × (is_touched_case spec k ≡ true)) (IsTouchedCase spec) (pair_cases spec a b) (λ k h. record { fits = h.0; touched = h.1 })
    (each_both (CaseFits spec) (λ k. is_touched_case spec k ≡ true) (pair_cases spec a b) (pair_known spec a b wf la lb) (each_passes (is_touched_case spec) (flat_map (target_cases spec a b) (targets spec))))
