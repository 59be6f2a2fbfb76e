-- Elements numbered by first appearance.
use Rattle.std.proofs.Common.{◌≡◌, inl, inr, ℕ, zero, suc, ◌+◌, ◌<◌, ◌≤◌, max, min, Bool, true, false, cond, not, eqb, List, [], ◌∷◌, ◌++◌, map, length, get_or, refl, sym, ap, subst, ◌∙◌, arith, length-append}
use Rattle.std.specs.List.{list_any, AllByRecursion, filter}
use Rattle.std.proofs.lemmas.Bool.{cases_eq, cases_Bool, true≢false, or_cases, or_parts, or_left, or_from, eqb-true, eqb-false, eq-eqb, ne_eqb}
use Rattle.ground_clauses.proofs.Hypotheses.{Among, among_flat_map, among_map, among_upto}
use Rattle.ground_clauses.proofs.Lists.{any_append_left, any_append_right, each_append}
use Rattle.ground_clauses.specs.Cases.{class_lists, grown, upto_from}
use Rattle.ground_clauses.specs.Numbering.{Element, class_in, noted, seen_after, with_new}
use Rattle.ground_clauses.specs.Query.{index_of}

-- ---- places

pub index_below : {X : Type 0} (test : X → Bool) (xs : List X) → list_any test xs ≡ true → index_of test xs < length xs
index_below test [] h = absurd (true≢false (sym h))
index_below test (x ∷ xs) h = elim (cases_Bool (test x)) [
  | inl here ↦ subst (λ b. cond b 0 (suc (index_of test xs)) < suc (length xs)) (sym here) (omega arith)
  | inr other ↦ elim (or_cases (test x) (list_any test xs) h) [
    | inl here ↦ absurd (true≢false (sym here ∙ other))
    | inr there ↦ subst (λ b. cond b 0 (suc (index_of test xs)) < suc (length xs)) (sym other) (let k : index_of test xs < length xs = index_below test xs there in omega arith)
  ]
]

pub index_append : {X : Type 0} (test : X → Bool) (xs ys : List X) → list_any test xs ≡ true → index_of test (xs ++ ys) ≡ index_of test xs
index_append test [] ys h = absurd (true≢false (sym h))
index_append test (x ∷ xs) ys h = elim (cases_Bool (test x)) [
  | inl here ↦ subst (λ b. cond b 0 (suc (index_of test (xs ++ ys))) ≡ cond b 0 (suc (index_of test xs))) (sym here) refl
  | inr other ↦ elim (or_cases (test x) (list_any test xs) h) [
    | inl here ↦ absurd (true≢false (sym here ∙ other))
    | inr there ↦ ap (λ i. cond (test x) 0 (suc i)) (index_append test xs ys there)
  ]
]

pub index_new : {X : Type 0} (test : X → Bool) (xs : List X) (x : X) → list_any test xs ≡ false → test x ≡ true → index_of test (xs ++ x ∷ []) ≡ length xs
index_new test [] x h is = ap (λ b. cond b 0 (suc 0)) is
index_new test (y ∷ xs) x h is =
    let p = or_parts (test y) (list_any test xs) h in
    ap (λ b. cond b 0 (suc (index_of test (xs ++ x ∷ [])))) p.0 ∙ ap suc (index_new test xs x p.1 is)

pub get_index : (x d : ℕ) (xs : List ℕ) → list_any (eqb x) xs ≡ true → get_or xs (index_of (eqb x) xs) d ≡ x
get_index x d [] h = absurd (true≢false (sym h))
get_index x d (y ∷ xs) h = elim (cases_Bool (eqb x y)) [
  | inl here ↦ subst (λ b. get_or (y ∷ xs) (cond b 0 (suc (index_of (eqb x) xs))) d ≡ x) (sym here) (sym (eqb-true x y here))
  | inr other ↦ elim (or_cases (eqb x y) (list_any (eqb x) xs) h) [
    | inl here ↦ absurd (true≢false (sym here ∙ other))
    | inr there ↦ subst (λ b. get_or (y ∷ xs) (cond b 0 (suc (index_of (eqb x) xs))) d ≡ x) (sym other) (get_index x d xs there)
  ]
]

-- ---- lists without repeats

abbrev pub Distinct : List ℕ → Type 0
Distinct [] = Unit {0}
Distinct (x ∷ xs) = (list_any (eqb x) xs ≡ false) × Distinct xs

-- the elements other than x
abbrev others : ℕ → List ℕ → List ℕ
others x xs = filter (λ y. not (eqb x y)) xs

any_get : (x : ℕ) (xs : List ℕ) (i d : ℕ) → i < length xs → list_any (eqb x) xs ≡ false → x ≡ get_or xs i d → ⊥
any_get x [] i d lt h e = absurd (omega arith)
any_get x (y ∷ xs) zero d lt h e = eqb-false x y (or_parts (eqb x y) (list_any (eqb x) xs) h).0 e
any_get x (y ∷ xs) (suc i) d lt h e = any_get x xs i d (omega arith) (or_parts (eqb x y) (list_any (eqb x) xs) h).1 e

pub distinct_get : (xs : List ℕ) (i j d : ℕ) → Distinct xs → i < length xs → j < length xs → get_or xs i d ≡ get_or xs j d → i ≡ j
distinct_get [] i j d h li lj e = absurd (omega arith)
distinct_get (x ∷ xs) zero zero d h li lj e = refl
distinct_get (x ∷ xs) zero (suc j) d h li lj e = absurd (any_get x xs j d (omega arith) h.0 e)
distinct_get (x ∷ xs) (suc i) zero d h li lj e = absurd (any_get x xs i d (omega arith) h.0 (sym e))
distinct_get (x ∷ xs) (suc i) (suc j) d h li lj e = ap suc (distinct_get xs i j d h.1 (omega arith) (omega arith) e)

any_push : (y x : ℕ) (xs : List ℕ) → list_any (eqb y) xs ≡ false → eqb y x ≡ false → list_any (eqb y) (xs ++ x ∷ []) ≡ false
any_push y x [] h k = or_from (eqb y x) false k refl
any_push y x (z ∷ xs) h k = let p = or_parts (eqb y z) (list_any (eqb y) xs) h in or_from (eqb y z) (list_any (eqb y) (xs ++ x ∷ [])) p.0 (any_push y x xs p.1 k)

pub distinct_push : (x : ℕ) (xs : List ℕ) → Distinct xs → list_any (eqb x) xs ≡ false → Distinct (xs ++ x ∷ [])
distinct_push x [] h k = (refl, tt)
distinct_push x (y ∷ xs) h k =
    let p = or_parts (eqb x y) (list_any (eqb x) xs) k in
    (any_push y x xs h.0 (ne_eqb y x (λ e. eqb-false x y p.0 (sym e))), distinct_push x xs h.1 p.1)

any_filter : (y : ℕ) (t : ℕ → Bool) (xs : List ℕ) → list_any (eqb y) xs ≡ false → list_any (eqb y) (filter t xs) ≡ false
any_filter y t [] h = h
any_filter y t (x ∷ xs) h = let p = or_parts (eqb y x) (list_any (eqb y) xs) h in elim (cases_Bool (t x)) [
  | inl keep ↦ subst (λ b. list_any (eqb y) (cond b (x ∷ filter t xs) (filter t xs)) ≡ false) (sym keep) (or_from (eqb y x) (list_any (eqb y) (filter t xs)) p.0 (any_filter y t xs p.1))
  | inr leave ↦ subst (λ b. list_any (eqb y) (cond b (x ∷ filter t xs) (filter t xs)) ≡ false) (sym leave) (any_filter y t xs p.1)
]

distinct_filter : (t : ℕ → Bool) (xs : List ℕ) → Distinct xs → Distinct (filter t xs)
distinct_filter t [] h = tt
distinct_filter t (x ∷ xs) h = elim (cases_Bool (t x)) [
  | inl keep ↦ subst (λ b. Distinct (cond b (x ∷ filter t xs) (filter t xs))) (sym keep) (any_filter x t xs h.0, distinct_filter t xs h.1)
  | inr leave ↦ subst (λ b. Distinct (cond b (x ∷ filter t xs) (filter t xs))) (sym leave) (distinct_filter t xs h.1)
]

-- an element that isn't there takes nothing away
others_all : (x : ℕ) (xs : List ℕ) → list_any (eqb x) xs ≡ false → length (others x xs) ≡ length xs
others_all x [] h = refl
others_all x (y ∷ xs) h = let p = or_parts (eqb x y) (list_any (eqb x) xs) h in
    ap (λ b. length (cond (not b) (y ∷ others x xs) (others x xs))) p.0 ∙ ap suc (others_all x xs p.1)

others_length : (x : ℕ) (xs : List ℕ) → Distinct xs → length xs ≤ suc (length (others x xs))
others_length x [] h = omega arith
others_length x (y ∷ xs) h = elim (cases_Bool (eqb x y)) [
  | inl is ↦
      let e : length (others x xs) ≡ length xs = others_all x xs (subst (λ z. list_any (eqb z) xs ≡ false) (sym (eqb-true x y is)) h.0) in
      subst (λ b. suc (length xs) ≤ suc (length (cond (not b) (y ∷ others x xs) (others x xs)))) (sym is) (omega arith)
  | inr other ↦
      let k : length xs ≤ suc (length (others x xs)) = others_length x xs h.1 in
      subst (λ b. suc (length xs) ≤ suc (length (cond (not b) (y ∷ others x xs) (others x xs)))) (sym other) (omega arith)
]

others_below : (n : ℕ) (xs : List ℕ) → AllByRecursion (λ x. x < suc n) xs → AllByRecursion (λ x. x < n) (others n xs)
others_below n [] h = tt
others_below n (y ∷ xs) h = elim (cases_Bool (eqb n y)) [
  | inl is ↦ subst (λ b. AllByRecursion (λ x. x < n) (cond (not b) (y ∷ others n xs) (others n xs))) (sym is) (others_below n xs h.1)
  | inr other ↦
      let ne : n ≡ y → ⊥ = eqb-false n y other in
      let lt : y < suc n = h.0 in
      subst (λ b. AllByRecursion (λ x. x < n) (cond (not b) (y ∷ others n xs) (others n xs))) (sym other)
      (elim (cases_eq n y) [ inl e ↦ absurd (ne e) | inr d ↦ (lt_other n y lt d, others_below n xs h.1) ])
]
  where
    lt_other : (n y : ℕ) → y < suc n → (n ≡ y → ⊥) → y < n
    lt_other n y lt d = omega arith

-- different numbers below n are at most n
pub few : (n : ℕ) (xs : List ℕ) → Distinct xs → AllByRecursion (λ x. x < n) xs → length xs ≤ n
few zero [] h k = omega arith
few zero (x ∷ xs) h k = absurd (let z : x < 0 = k.0 in omega arith)
few (suc n) xs h k =
    let a : length xs ≤ suc (length (others n xs)) = others_length n xs h in
    let b : length (others n xs) ≤ n = few n (others n xs) (distinct_filter (λ y. not (eqb n y)) xs h) (others_below n xs k) in
    omega arith

-- ---- what was seen

pub record IsSeen (size : ℕ → ℕ) (seen : ℕ → List ℕ) : Type 0 where
  pub apart : (s : ℕ) → Distinct (seen s)
  pub small : (s : ℕ) → AllByRecursion (λ x. x < size s) (seen s)

with_new_cases : (P : List ℕ → Type 0) (x : ℕ) (xs : List ℕ) → (list_any (eqb x) xs ≡ true → P xs) → (list_any (eqb x) xs ≡ false → P (xs ++ x ∷ [])) → P (with_new x xs)
with_new_cases P x xs old new = elim (cases_Bool (list_any (eqb x) xs)) [
  | inl is ↦ subst (λ b. P (cond b xs (xs ++ x ∷ []))) (sym is) (old is)
  | inr not_yet ↦ subst (λ b. P (cond b xs (xs ++ x ∷ []))) (sym not_yet) (new not_yet)
]

noted_cases : (P : List ℕ → Type 0) (seen : ℕ → List ℕ) (e : Element) (s : ℕ) → (e.sort ≡ s → P (with_new e.value (seen s))) → (eqb e.sort s ≡ false → P (seen s)) → P (noted seen e s)
noted_cases P seen e s here there = elim (cases_Bool (eqb e.sort s)) [
  | inl is ↦ subst (λ b. P (cond b (with_new e.value (seen s)) (seen s))) (sym is) (here (eqb-true e.sort s is))
  | inr other ↦ subst (λ b. P (cond b (with_new e.value (seen s)) (seen s))) (sym other) (there other)
]

pub noted_seen : (size : ℕ → ℕ) (seen : ℕ → List ℕ) (e : Element) → IsSeen size seen → e.value < size e.sort → IsSeen size (noted seen e)
noted_seen size seen e h lt = record {
  apart = λ s. noted_cases Distinct seen e s
      (λ same_sort. with_new_cases Distinct e.value (seen s) (λ old. h.apart s) (λ new. distinct_push e.value (seen s) (h.apart s) new)) (λ other. h.apart s);
  small = λ s. noted_cases (AllByRecursion (λ x. x < size s)) seen e s
      (λ same_sort. with_new_cases (AllByRecursion (λ x. x < size s)) e.value (seen s) (λ old. h.small s)
      (λ new. each_append (λ x. x < size s) (seen s) (e.value ∷ []) (h.small s) (subst (λ z. e.value < size z) same_sort lt, tt))) (λ other. h.small s);
}

abbrev pub Fit : (ℕ → ℕ) → Element → Type 0
Fit size e = e.value < size e.sort

pub all_seen : (size : ℕ → ℕ) (seen : ℕ → List ℕ) (es : List Element) → IsSeen size seen → AllByRecursion (Fit size) es → IsSeen size (seen_after seen es)
all_seen size seen [] h k = h
all_seen size seen (e ∷ es) h k = all_seen size (noted seen e) es (noted_seen size seen e h k.0) k.1

pub record IsKept (test : ℕ → Bool) (xs ys : List ℕ) : Type 0 where
  pub there : list_any test ys ≡ true
  pub place : index_of test ys ≡ index_of test xs

kept_new : (test : ℕ → Bool) (x : ℕ) (xs : List ℕ) → list_any test xs ≡ true → IsKept test xs (with_new x xs)
kept_new test x xs h = with_new_cases (IsKept test xs) x xs (λ old. record { there = h; place = refl })
    (λ new. record { there = any_append_left test xs (x ∷ []) h; place = index_append test xs (x ∷ []) h })

pub kept : (test : ℕ → Bool) (seen : ℕ → List ℕ) (es : List Element) (s : ℕ) → list_any test (seen s) ≡ true → IsKept test (seen s) (seen_after seen es s)
kept test seen [] s h = record { there = h; place = refl }
kept test seen (e ∷ es) s h =
    let one : IsKept test (seen s) (noted seen e s) = noted_cases (IsKept test (seen s)) seen e s (λ same_sort. kept_new test e.value (seen s) h) (λ other. record { there = h; place = refl }) in
    let rest : IsKept test (noted seen e s) (seen_after (noted seen e) es s) = kept test (noted seen e) es s one.there in
    record { there = rest.there; place = rest.place ∙ one.place }

noted_here : (seen : ℕ → List ℕ) (e : Element) → noted seen e e.sort ≡ with_new e.value (seen e.sort)
noted_here seen e = ap (λ b. cond b (with_new e.value (seen e.sort)) (seen e.sort)) (eq-eqb e.sort e.sort refl)

new_there : (x : ℕ) (xs : List ℕ) → list_any (eqb x) (with_new x xs) ≡ true
new_there x xs = with_new_cases (λ ys. list_any (eqb x) ys ≡ true) x xs (λ old. old)
    (λ new. any_append_right (eqb x) xs (x ∷ []) (or_left (eqb x x) false (eq-eqb x x refl)))

-- each element of the pattern was seen in the end
pub each_seen : (seen : ℕ → List ℕ) (es : List Element) → AllByRecursion (λ e. list_any (eqb e.value) (seen_after seen es e.sort) ≡ true) es
each_seen seen [] = tt
each_seen seen (e ∷ es) = (
  (kept (eqb e.value) (noted seen e) es e.sort (subst (λ ys. list_any (eqb e.value) ys ≡ true) (sym (noted_here seen e)) (new_there e.value (seen e.sort)))).there,
  each_seen (noted seen e) es,
)

-- ---- the canonical list of class lists

new_length : (x : ℕ) (xs : List ℕ) → length (with_new x xs) ≡ max (suc (index_of (eqb x) (with_new x xs))) (length xs)
new_length x xs = with_new_cases (λ ys. length ys ≡ max (suc (index_of (eqb x) ys)) (length xs)) x xs
    (λ old. let k : index_of (eqb x) xs < length xs = index_below (eqb x) xs old in omega arith)
    (λ new. let k : index_of (eqb x) (xs ++ x ∷ []) ≡ length xs = index_new (eqb x) xs x new (eq-eqb x x refl) in
    let l : length (xs ++ x ∷ []) ≡ length xs + 1 = length-append xs (x ∷ []) in omega arith)

new_index : (x : ℕ) (xs : List ℕ) → index_of (eqb x) (with_new x xs) ≤ length xs
new_index x xs = with_new_cases (λ ys. index_of (eqb x) ys ≤ length xs) x xs
    (λ old. let k : index_of (eqb x) xs < length xs = index_below (eqb x) xs old in omega arith)
    (λ new. let k : index_of (eqb x) (xs ++ x ∷ []) ≡ length xs = index_new (eqb x) xs x new (eq-eqb x x refl) in omega arith)

grows : (used : ℕ → ℕ) (seen : ℕ → List ℕ) (e : Element) (c : ℕ) → ((z : ℕ) → used z ≡ length (seen z)) → c ≡ index_of (eqb e.value) (with_new e.value (seen e.sort)) → (z : ℕ) → grown used e.sort c z ≡ length (noted seen e z)
grows used seen e c h is z = elim (cases_Bool (eqb e.sort z)) [
  | inl same_sort ↦
      let at : e.sort ≡ z = eqb-true e.sort z same_sort in
      let l : length (with_new e.value (seen e.sort)) ≡ max (suc c) (length (seen e.sort)) = new_length e.value (seen e.sort) ∙ ap (λ i. max (suc i) (length (seen e.sort))) (sym is) in
      let m : length (with_new e.value (seen z)) ≡ max (suc c) (length (seen z)) = subst (λ y. length (with_new e.value (seen y)) ≡ max (suc c) (length (seen y))) at l in
      subst (λ b. cond b (max (suc c) (used z)) (used z) ≡ length (cond b (with_new e.value (seen z)) (seen z))) (sym same_sort) (ap (λ i. max (suc c) i) (h z) ∙ sym m)
  | inr other ↦ subst (λ b. cond b (max (suc c) (used z)) (used z) ≡ length (cond b (with_new e.value (seen z)) (seen z))) (sym other) (h z)
]

pub among_class_lists : (size used : ℕ → ℕ) (seen : ℕ → List ℕ) (es : List Element) → ((z : ℕ) → used z ≡ length (seen z)) → IsSeen size seen → AllByRecursion (Fit size) es
    → Among (map (class_in (seen_after seen es)) es) (class_lists size used (map (λ e. e.sort) es))
among_class_lists size used seen [] h good fit = inl refl
among_class_lists size used seen (e ∷ es) h good fit =
    let final : ℕ → List ℕ = seen_after (noted seen e) es in
    let k : IsKept (eqb e.value) (noted seen e e.sort) (seen_after (noted seen e) es e.sort) =
    kept (eqb e.value) (noted seen e) es e.sort (subst (λ ys. list_any (eqb e.value) ys ≡ true) (sym (noted_here seen e)) (new_there e.value (seen e.sort))) in
    let is : class_in (seen_after (noted seen e) es) e ≡ index_of (eqb e.value) (with_new e.value (seen e.sort)) = k.place ∙ ap (index_of (eqb e.value)) (noted_here seen e) in
    let next : IsSeen size (noted seen e) = noted_seen size seen e good fit.0 in
    let bound : length (with_new e.value (seen e.sort)) ≤ size e.sort =
    subst (λ ys. length ys ≤ size e.sort) (noted_here seen e) (few (size e.sort) (noted seen e e.sort) (next.apart e.sort) (next.small e.sort)) in
    let below : index_of (eqb e.value) (with_new e.value (seen e.sort)) < length (with_new e.value (seen e.sort)) = index_below (eqb e.value) (with_new e.value (seen e.sort)) (new_there e.value (seen e.sort)) in
    let most : index_of (eqb e.value) (with_new e.value (seen e.sort)) ≤ length (seen e.sort) = new_index e.value (seen e.sort) in
    let u : used e.sort ≡ length (seen e.sort) = h e.sort in
    among_flat_map (λ c. map (λ cs. c ∷ cs) (class_lists size (grown used e.sort c) (map (λ x. x.sort) es))) (class_in (seen_after (noted seen e) es) e) (map (class_in (seen_after seen (e ∷ es))) (e ∷ es))
    (upto_from 0 (min (size e.sort) (suc (used e.sort))))
    (among_upto (class_in (seen_after (noted seen e) es) e) 0 (min (size e.sort) (suc (used e.sort))) (omega arith) (small_class is below bound most u))
    (among_map (λ cs. class_in (seen_after (noted seen e) es) e ∷ cs) (map (class_in (seen_after (noted seen e) es)) es) (class_lists size (grown used e.sort (class_in (seen_after (noted seen e) es) e)) (map (λ x. x.sort) es))
    (among_class_lists size (grown used e.sort (class_in (seen_after (noted seen e) es) e)) (noted seen e) es (grows used seen e (class_in (seen_after (noted seen e) es) e) h is) next fit.1))
  where
    small_class : {c i l m s u : ℕ} → c ≡ i → i < l → l ≤ s → i ≤ m → u ≡ m → c < 0 + min s (suc u)
    small_class a b c d e = omega arith
