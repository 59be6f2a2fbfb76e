-- A pair's own reservation separates its conflicting cases.
use Rattle.std.proofs.Common.{◌≡◌, ◌⊎◌, inl, inr, ℕ, zero, suc, ◌+◌, ◌<◌, ◌≤◌, Bool, true, false, cond, ◌&&◌, eqb, List, [], ◌∷◌, map, filter, length, get_or, refl, sym, ap, subst, ◌∙◌, arith}
use Rattle.std.specs.Prelude.{Option, Some, None}
use Rattle.std.specs.List.{All, AllByRecursion, flat_map, list_all, list_any}
use Rattle.std.proofs.lemmas.Bool.{and_from, and_parts, eq-eqb, or_left}
use Rattle.std.proofs.lemmas.List.Elements.{All-from_recursion}
use Rattle.certificate_check.specs.Separation.{lock_fits, lowest, lowest_from, pair_meets, part_fits, shares}
use Rattle.ground_clauses.proofs.Hypotheses.{Among, each_upto}
use Rattle.ground_clauses.proofs.Known.{pair_known}
use Rattle.ground_clauses.proofs.Lists.{each_filter, each_flat_map, each_map, each_weaker}
use Rattle.ground_clauses.specs.Cases.{CaseKnown, bit_lists, case_at, class_cases, class_count, class_lists, interval_classes, is_touched_case, pair_cases, pattern_sorts, target_cases, targets, upto_from}
use Rattle.ground_clauses.specs.Derivations.{is_nil}
use Rattle.ground_clauses.specs.Listing.{CaseFits}
use Rattle.ground_clauses.specs.declared.case.Case.{Case}
use Rattle.ground_clauses.specs.declared.case.Target.{Target}
use Rattle.reservation_plan.specs.Conflicts.{is_conflicting}
use Rattle.reservation_plan.specs.Derived.{always_meets, is_partitioned, key_at, key_of, intervals_match, locks_by, may_meet, pair_of, params_of, parts_by, reservation, with_first}
use Rattle.reservation_plan.specs.Drafting.{IsConflict, IsKnown}
use Rattle.reservation_plan.specs.Judging.{case_of}
use Rattle.reservation_plan.specs.declared.judging.Judged.{Judged}
use Rattle.reservation_plan.specs.declared.reserving.Conflict.{Conflict}
use Rattle.spec_model.specs.Fits.{IsWellFormed, OpFits}
use Rattle.spec_model.specs.Truths.{no_op, op_at, size_of}
use Rattle.spec_model.specs.declared.operation.Op.{Op}
use Rattle.spec_model.specs.declared.plan.Pair.{Pair}
use Rattle.spec_model.specs.declared.spec.Spec.{Spec}

-- ---- what is known of a pair's cases

cases_known : (spec : Spec) (a b : ℕ) → IsWellFormed spec → a < length spec.ops → b < length spec.ops → AllByRecursion (CaseKnown spec) (pair_cases spec a b)
cases_known spec a b wf la lb = each_weaker (CaseFits spec) (CaseKnown spec) (pair_cases spec a b) (λ k h. h.known) (pair_known spec a b wf la lb)

conflicts_known : (spec : Spec) (a b : ℕ) (ks : List Case) → IsWellFormed spec → a < length spec.ops → b < length spec.ops → ks ≡ filter (is_conflicting spec) (pair_cases spec a b) → All (CaseKnown spec) ks
conflicts_known spec a b ks wf la lb is =
    subst (All (CaseKnown spec)) (sym is)
    (All-from_recursion (CaseKnown spec) (filter (is_conflicting spec) (pair_cases spec a b)) (each_filter (CaseKnown spec) (is_conflicting spec) (pair_cases spec a b) (cases_known spec a b wf la lb)))

few_at : (spec : Spec) (ops : List Op) (i : ℕ) → AllByRecursion (OpFits spec) ops → length (get_or ops i no_op).params ≤ 4
few_at spec [] i h = omega arith
few_at spec (o ∷ ops) zero h = h.0.few_params
few_at spec (o ∷ ops) (suc i) h = few_at spec ops i h.1

pub can_reserve : (x : Conflict) → IsWellFormed x.spec.now → x.a < length x.spec.now.ops → x.b < length x.spec.now.ops → x.cases.now ≡ filter (is_conflicting x.spec.now) (pair_cases x.spec.now x.a x.b) → IsConflict x
can_reserve x wf la lb is = record {
  known_a = la;
  known_b = lb;
  few_a = few_at x.spec.now x.spec.now.ops x.a wf.ops;
  few_b = few_at x.spec.now x.spec.now.ops x.b wf.ops;
  cases = conflicts_known x.spec.now x.a x.b x.cases.now wf la lb is;
}

pub map_each : {X Y : Type 0} (P : Y → Type 0) (f : X → Y) (xs : List X) → AllByRecursion P (map f xs) → AllByRecursion (λ x. P (f x)) xs
map_each P f [] h = tt
map_each P f (x ∷ xs) h = (h.0, map_each P f xs h.1)

pub judged_known : (spec : Spec) (a b : ℕ) (js : List Judged) → IsWellFormed spec → a < length spec.ops → b < length spec.ops → map case_of js ≡ pair_cases spec a b → AllByRecursion (IsKnown spec) js
judged_known spec a b js wf la lb is = map_each (CaseKnown spec) case_of js (subst (AllByRecursion (CaseKnown spec)) (sym is) (cases_known spec a b wf la lb))

pub each_always : {X : Type 0} (P : X → Type 0) (xs : List X) → ((x : X) → P x) → AllByRecursion P xs
each_always P [] f = tt
each_always P (x ∷ xs) f = (f x, each_always P xs f)

-- a case of these operations
abbrev pub IsOf : ℕ → ℕ → Case → Type 0
IsOf a b k = (k.a ≡ a) × (k.b ≡ b)

target_own : (spec : Spec) (a b : ℕ) (t : Target) → AllByRecursion (IsOf a b) (target_cases spec a b t)
target_own spec a b t =
    each_flat_map (IsOf a b) (class_cases spec a b t) (class_lists (size_of spec) (λ z. 0) (pattern_sorts spec a b t))
    (each_always (λ cs. AllByRecursion (IsOf a b) (class_cases spec a b t cs)) (class_lists (size_of spec) (λ z. 0) (pattern_sorts spec a b t))
    (λ cs. each_flat_map (IsOf a b) (λ ba. map (λ bb. case_at a b t cs ba bb) (bit_lists (interval_classes (class_count (pattern_sorts spec a b t) cs) (op_at spec b).params)))
    (bit_lists (interval_classes (class_count (pattern_sorts spec a b t) cs) (op_at spec a).params))
    (each_always (λ ba. AllByRecursion (IsOf a b) (map (λ bb. case_at a b t cs ba bb) (bit_lists (interval_classes (class_count (pattern_sorts spec a b t) cs) (op_at spec b).params))))
    (bit_lists (interval_classes (class_count (pattern_sorts spec a b t) cs) (op_at spec a).params))
    (λ ba. each_map (IsOf a b) (λ bb. case_at a b t cs ba bb) (bit_lists (interval_classes (class_count (pattern_sorts spec a b t) cs) (op_at spec b).params))
    (each_always (λ bb. IsOf a b (case_at a b t cs ba bb)) (bit_lists (interval_classes (class_count (pattern_sorts spec a b t) cs) (op_at spec b).params)) (λ bb. (refl, refl)))))))

pub own_cases : (spec : Spec) (a b : ℕ) → AllByRecursion (IsOf a b) (pair_cases spec a b)
own_cases spec a b =
    each_filter (IsOf a b) (is_touched_case spec) (flat_map (target_cases spec a b) (targets spec))
    (each_flat_map (IsOf a b) (target_cases spec a b) (targets spec) (each_always (λ t. AllByRecursion (IsOf a b) (target_cases spec a b t)) (targets spec) (target_own spec a b)))

-- ---- keys

-- the lowest number that passes, which is its own place
pub record IsLowest (test : ℕ → Bool) (i n j : ℕ) : Type 0 where
  pub passes : test j ≡ true
  pub below : j < i + n

pub lowest_is : (test : ℕ → Bool) (i n j : ℕ) → lowest_from i test (upto_from i n) ≡ Some j → IsLowest test i n j
lowest_is test i zero j h = cc
lowest_is test i (suc n) j h = by_test (test i) refl h (λ g. lowest_is test (suc i) n j g)
  where
    by_test : (b : Bool) → test i ≡ b → cond b (Some i) (lowest_from (suc i) test (upto_from (suc i) n)) ≡ Some j → (lowest_from (suc i) test (upto_from (suc i) n) ≡ Some j → IsLowest test (suc i) n j) → IsLowest test i (suc n) j
    by_test true is g rest = let e : i ≡ j = some_same g in record { passes = ap test (sym e) ∙ is; below = omega arith }
      where
        some_same : Some i ≡ Some j → i ≡ j
        some_same e = cc
    by_test false is g rest = let r : IsLowest test (suc i) n j = rest g in record { passes = r.passes; below = let z : j < suc i + n = r.below in omega arith }

-- a property of each pair of a key, by what always meets
pub key_each : (spec : Spec) (a b : ℕ) (ks : List Case) (P : Pair → Type 0)
    → ((i j : ℕ) → i < length (params_of spec a) → j < length (params_of spec b) → always_meets spec a b ks i j ≡ true → P (pair_of i j))
    → AllByRecursion P (key_of spec a b ks)
key_each spec a b ks P f =
    each_flat_map P (key_at spec a b ks) (upto_from 0 (length (params_of spec a)))
    (each_weaker (λ i. i < 0 + length (params_of spec a)) (λ i. AllByRecursion P (key_at spec a b ks i)) (upto_from 0 (length (params_of spec a)))
    (λ i lt. by_partner i (let z : i < length (params_of spec a) = omega (arith, lt) in z) (lowest (always_meets spec a b ks i) (upto_from 0 (length (params_of spec b)))) refl)
    (each_upto 0 (length (params_of spec a))))
  where
    by_partner : (i : ℕ) → i < length (params_of spec a) → (o : Option ℕ) → lowest (always_meets spec a b ks i) (upto_from 0 (length (params_of spec b))) ≡ o → AllByRecursion P (with_first i o)
    by_partner i lt None is = tt
    by_partner i lt (Some j) is =
        let l : IsLowest (always_meets spec a b ks i) 0 (length (params_of spec b)) j = lowest_is (always_meets spec a b ks i) 0 (length (params_of spec b)) j is in
        (f i j lt (let z : j < 0 + length (params_of spec b) = l.below in omega arith) l.passes, tt)

all_among : {X : Type 0} (p : X → Bool) (x : X) (xs : List X) → list_all p xs ≡ true → Among x xs → p x ≡ true
all_among p x [] h is = absurd is
all_among p x (y ∷ xs) h (inl here) = ap p here ∙ (and_parts (p y) (list_all p xs) h).0
all_among p x (y ∷ xs) h (inr there) = all_among p x xs (and_parts (p y) (list_all p xs) h).1 there

all_each : {X : Type 0} (p : X → Bool) (xs : List X) → AllByRecursion (λ x. p x ≡ true) xs → list_all p xs ≡ true
all_each p [] h = refl
all_each p (x ∷ xs) h = and_from (p x) (list_all p xs) h.0 (all_each p xs h.1)

-- the key of a reservation has equal classes in each of its cases
key_meets : (spec : Spec) (a b : ℕ) (ks : List Case) (k : Case) → Among k ks → list_all (pair_meets spec k) (key_of spec a b ks) ≡ true
key_meets spec a b ks k is =
    all_each (pair_meets spec k) (key_of spec a b ks)
    (key_each spec a b ks (λ p. pair_meets spec k p ≡ true)
    (λ i j li lj meets. all_among (λ c. pair_meets spec c (pair_of i j)) k ks (and_parts (may_meet spec a b i j) (list_all (λ c. pair_meets spec c (pair_of i j)) ks) meets).1 is))

reservation_fits : (spec : Spec) (a b : ℕ) (ks : List Case) (k : Case) → IsOf a b k → Among k ks → lock_fits spec k (reservation spec a b ks) ≡ true
reservation_fits spec a b ks k own is =
    and_from (eqb a k.a) (eqb b k.b && list_all (pair_meets spec k) (key_of spec a b ks)) (eq-eqb a k.a (sym own.0))
    (and_from (eqb b k.b) (list_all (pair_meets spec k) (key_of spec a b ks)) (eq-eqb b k.b (sym own.1)) (key_meets spec a b ks k is))

pub among_some : {X : Type 0} (x : X) (xs : List X) → Among x xs → is_nil xs ≡ false
among_some x [] h = absurd h
among_some x (y ∷ xs) h = refl

-- a conflicting case is separated by its pair's reservation
pub own_separates : (spec : Spec) (a b : ℕ) (ks : List Case) (k : Case) → IsOf a b k → Among k ks
    → (list_any (lock_fits spec k) (locks_by spec a b ks) ≡ true) ⊎ (list_any (part_fits spec k) (parts_by spec a b ks) ≡ true)
own_separates spec a b ks k own is =
    subst (λ n. (list_any (lock_fits spec k) (cond n [] (cond (is_partitioned spec a b ks) [] (reservation spec a b ks ∷ []))) ≡ true) ⊎ (list_any (part_fits spec k) (cond n [] (cond (is_partitioned spec a b ks) (reservation spec a b ks ∷ []) [])) ≡ true))
    (sym (among_some k ks is)) (by_part (is_partitioned spec a b ks) refl)
  where
    by_part : (p : Bool) → is_partitioned spec a b ks ≡ p
        → (list_any (lock_fits spec k) (cond p [] (reservation spec a b ks ∷ [])) ≡ true) ⊎ (list_any (part_fits spec k) (cond p (reservation spec a b ks ∷ []) []) ≡ true)
    by_part true h =
        inr (or_left (part_fits spec k (reservation spec a b ks)) false
        (and_from (lock_fits spec k (reservation spec a b ks)) (shares k) (reservation_fits spec a b ks k own is) (all_among shares k ks (and_parts (intervals_match spec a b) (list_all shares ks) h).1 is)))
    by_part false h = inl (or_left (lock_fits spec k (reservation spec a b ks)) false (reservation_fits spec a b ks k own is))
