-- How many cases the canonical lists have: no more than are counted.
use Rattle.std.proofs.Common.{◌≡◌, ℕ, zero, suc, ◌+◌, ◌-◌, ◌*◌, ◌^◌, ◌<◌, ◌≤◌, min, max, eqb, ltb, Bool, true, false, cond, ◌&&◌, List, [], ◌∷◌, map, length, get_or, refl, sym, ap, subst, ◌∙◌, inl, inr, arith}
use Rattle.std.specs.Prelude.{MatchBool}
use Rattle.std.specs.List.{AllByRecursion, flat_map, filter, sum_by}
use Rattle.std.proofs.lemmas.Bool.{cases_Bool, cases_eq, cases_lt, eq-eqb, ne_eqb, lt-ltb}
use Rattle.std.proofs.lemmas.List.{length-map}
use Rattle.std.proofs.lemmas.List.Concat.{length-flat_map}
use Rattle.std.proofs.lemmas.List.Sums.{count_by-le-length, length-filter, sum_by-append, sum_by-cons, sum_by-le-sum_by}
use Rattle.std.proofs.lemmas.Nat.{pow-add}
use Rattle.std.proofs.Math.Nat.{add-mul, mul-add, mul-le-mul_right, mul_assoc}
use Rattle.reservation_plan.proofs.Splitting.{others, product_ones, product_same, product_split, product_times, ways_from, ways_split, ways_step}
use Rattle.ground_clauses.proofs.Finding.{upto_more}
use Rattle.ground_clauses.proofs.Stands.{op_one_interval}
use Rattle.ground_clauses.specs.Cases.{bit_lists, case_at, class_cases, class_count, class_lists, grown, interval_classes, is_touched_case, pair_cases, pattern_sorts, target_cases, targets, touched_cases, upto_from}
use Rattle.ground_clauses.specs.Counting.{case_count, intervals, occurrences, pair_count, product_below, row_count, shape_cases, sort_cases}
use Rattle.ground_clauses.specs.declared.case.Target.{Target}
use Rattle.spec_model.specs.Fits.{IsWellFormed, OneInterval, OpFits}
use Rattle.spec_model.specs.Truths.{no_op, no_sort, op_at, size_of}
use Rattle.spec_model.specs.declared.clause.Var.{Var}
use Rattle.spec_model.specs.declared.operation.Op.{Op}
use Rattle.spec_model.specs.declared.spec.Sort.{Sort}
use Rattle.spec_model.specs.declared.spec.Spec.{Spec}

-- ---- bits

intervals-cons : (z : ℕ) (p : Var) (params : List Var) → intervals z (p ∷ params) ≡ cond (p.interval && eqb p.sort z) 1 0 + intervals z params
intervals-cons z p params = sum_by-cons (λ (q : Var). cond (q.interval && eqb q.sort z) 1 0) p params

no_intervals : (z : ℕ) (rest : List Var) → AllByRecursion (λ (r : Var). r.interval ≡ false) rest → intervals z rest ≡ 0
no_intervals z [] h = refl
no_intervals z (q ∷ rest) h = intervals-cons z q rest ∙ ap (λ b. cond (b && eqb q.sort z) 1 0 + intervals z rest) h.0 ∙ (let r : intervals z rest ≡ 0 = no_intervals z rest h.1 in let e : 0 + intervals z rest ≡ 0 = omega arith in e)

-- the bits of the interval parameter, by the classes in use
bits_of : (u : ℕ → ℕ) (n : ℕ) (params : List Var) → OneInterval params → AllByRecursion (λ (p : Var). p.sort < n) params → 2 ^ interval_classes u params ≡ product_below (λ z. 2 ^ (u z * intervals z params)) n
bits_of u n [] one known = sym (product_same (λ z. 2 ^ (u z * intervals z [])) (λ z. 1) n (λ z lt. ap (λ x. 2 ^ x) (let e : u z * 0 ≡ 0 = omega arith in e)) ∙ product_ones n)
bits_of u n (p ∷ params) one known = elim (cases_Bool p.interval) [
  | inl is ↦
      let none : (z : ℕ) → intervals z params ≡ 0 = λ z. no_intervals z params (subst (λ b. MatchBool b (AllByRecursion (λ (r : Var). r.interval ≡ false) params) (OneInterval params)) is one) in
      let own : (z : ℕ) → intervals z (p ∷ params) ≡ cond (eqb p.sort z) 1 0 =
      λ z. intervals-cons z p params ∙ ap (λ b. cond (b && eqb p.sort z) 1 0 + intervals z params) is ∙ ap (λ x. cond (eqb p.sort z) 1 0 + x) (none z) ∙ (let e : cond (eqb p.sort z) 1 0 + 0 ≡ cond (eqb p.sort z) 1 0 = omega arith in e) in
      let f : ℕ → ℕ = λ z. 2 ^ (u z * intervals z (p ∷ params)) in
      ap (λ b. 2 ^ cond b (u p.sort) (interval_classes u params)) is
      ∙ sym (product_split (λ z. 2 ^ (u z * intervals z (p ∷ params))) n p.sort known.0
      ∙ ap (λ x. 2 ^ (u p.sort * x) * product_below (others p.sort (λ z. 2 ^ (u z * intervals z (p ∷ params)))) n) (own p.sort ∙ ap (λ b. cond b 1 0) (eq-eqb p.sort p.sort refl))
      ∙ ap (λ x. 2 ^ (u p.sort * 1) * x) (product_same (others p.sort (λ z. 2 ^ (u z * intervals z (p ∷ params)))) (λ z. 1) n (λ z lt. rest z (own z)) ∙ product_ones n)
      ∙ (let e : 2 ^ (u p.sort * 1) * 1 ≡ 2 ^ (u p.sort * 1) = omega arith in e)
      ∙ ap (λ x. 2 ^ x) (let e : u p.sort * 1 ≡ u p.sort = omega arith in e))
  | inr isnt ↦
      ap (λ b. 2 ^ cond b (u p.sort) (interval_classes u params)) isnt
      ∙ bits_of u n params (subst (λ b. MatchBool b (AllByRecursion (λ (r : Var). r.interval ≡ false) params) (OneInterval params)) isnt one) known.1
      ∙ product_same (λ z. 2 ^ (u z * intervals z params)) (λ z. 2 ^ (u z * intervals z (p ∷ params))) n
      (λ z lt. ap (λ x. 2 ^ (u z * x)) (sym (intervals-cons z p params ∙ ap (λ b. cond (b && eqb p.sort z) 1 0 + intervals z params) isnt ∙ (let e : 0 + intervals z params ≡ intervals z params = omega arith in e))))
]
  where
    rest : (z : ℕ) → intervals z (p ∷ params) ≡ cond (eqb p.sort z) 1 0 → others p.sort (λ z. 2 ^ (u z * intervals z (p ∷ params))) z ≡ 1
    rest z is = elim (cases_Bool (eqb p.sort z)) [
      | inl same ↦ ap (λ b. cond b 1 (2 ^ (u z * intervals z (p ∷ params)))) same
      | inr other ↦ ap (λ b. cond b 1 (2 ^ (u z * intervals z (p ∷ params)))) other ∙ ap (λ x. 2 ^ (u z * x)) (is ∙ ap (λ b. cond b 1 0) other) ∙ ap (λ x. 2 ^ x) (let e : u z * 0 ≡ 0 = omega arith in e)
    ]

-- how many ways the bits of both have
abbrev bit_count : List Var → List Var → (ℕ → ℕ) → ℕ
bit_count first second u = 2 ^ interval_classes u first * 2 ^ interval_classes u second

abbrev weight_of : List Var → List Var → ℕ → ℕ → ℕ
weight_of first second z k = 2 ^ (k * (intervals z first + intervals z second))

bits_both : (u : ℕ → ℕ) (n : ℕ) (first second : List Var) → OneInterval first → AllByRecursion (λ (p : Var). p.sort < n) first → OneInterval second → AllByRecursion (λ (p : Var). p.sort < n) second
    → bit_count first second u ≡ product_below (λ z. weight_of first second z (u z)) n
bits_both u n first second one known two known_two =
    let f : ℕ → ℕ = λ z. 2 ^ (u z * intervals z first) in
    let g : ℕ → ℕ = λ z. 2 ^ (u z * intervals z second) in
    ap (λ x. x * 2 ^ interval_classes u second) (bits_of u n first one known)
    ∙ ap (λ x. product_below (λ z. 2 ^ (u z * intervals z first)) n * x) (bits_of u n second two known_two)
    ∙ product_times (λ z. 2 ^ (u z * intervals z first)) (λ z. 2 ^ (u z * intervals z second)) n
    ∙ product_same (λ z. 2 ^ (u z * intervals z first) * 2 ^ (u z * intervals z second)) (λ z. weight_of first second z (u z)) n
    (λ z lt. sym (ap (λ e. 2 ^ e) (mul-add (u z) (intervals z first) (intervals z second)) ∙ pow-add 2 (u z * intervals z first) (u z * intervals z second)))

-- ---- all lists of classes

-- the classes in use behind these
abbrev used_after : (ℕ → ℕ) → List ℕ → List ℕ → ℕ → ℕ
used_after u [] cs = u
used_after u (s ∷ sorts) [] = u
used_after u (s ∷ sorts) (c ∷ cs) = used_after (grown u s c) sorts cs

used_count : (u : ℕ → ℕ) (sorts cs : List ℕ) (z : ℕ) → used_after u sorts cs z ≡ max (u z) (class_count sorts cs z)
used_count u [] cs z = omega arith
used_count u (s ∷ sorts) [] z = omega arith
used_count u (s ∷ sorts) (c ∷ cs) z = used_count (grown u s c) sorts cs z ∙ by_sort (eqb s z)
  where
    by_sort : (b : Bool) → max (cond b (max (suc c) (u z)) (u z)) (class_count sorts cs z) ≡ max (u z) (cond b (max (suc c) (class_count sorts cs z)) (class_count sorts cs z))
    by_sort true = omega arith
    by_sort false = refl

classes_same : (u v : ℕ → ℕ) (params : List Var) → ((z : ℕ) → u z ≡ v z) → interval_classes u params ≡ interval_classes v params
classes_same u v [] h = refl
classes_same u v (p ∷ params) h = ap (λ x. cond p.interval x (interval_classes u params)) (h p.sort) ∙ ap (λ x. cond p.interval (v p.sort) x) (classes_same u v params h)

sum_same : {X : Type 0} (f g : X → ℕ) (xs : List X) → ((x : X) → f x ≡ g x) → sum_by f xs ≡ sum_by g xs
sum_same f g [] h = refl
sum_same f g (x ∷ xs) h = sum_by-cons f x xs ∙ ap (λ n. n + sum_by f xs) (h x) ∙ ap (λ n. g x + n) (sum_same f g xs h) ∙ sym (sum_by-cons g x xs)

sum_map : {X Y : Type 0} (f : Y → ℕ) (g : X → Y) (xs : List X) → sum_by f (map g xs) ≡ sum_by (λ x. f (g x)) xs
sum_map f g [] = refl
sum_map f g (x ∷ xs) = sum_by-cons f (g x) (map g xs) ∙ ap (λ n. f (g x) + n) (sum_map f g xs) ∙ sym (sum_by-cons (λ x. f (g x)) x xs)

sum_flat : {X Y : Type 0} (f : Y → ℕ) (g : X → List Y) (xs : List X) → sum_by f (flat_map g xs) ≡ sum_by (λ x. sum_by f (g x)) xs
sum_flat f g [] = refl
sum_flat f g (x ∷ xs) = sum_by-append f (g x) (flat_map g xs) ∙ ap (λ n. sum_by f (g x) + n) (sum_flat f g xs) ∙ sym (sum_by-cons (λ x. sum_by f (g x)) x xs)

-- terms up to a place, each at most x
sum_low : (h : ℕ → ℕ) (x k n u : ℕ) → k + n ≤ u → ((c : ℕ) → c < u → h c ≤ x) → sum_by h (upto_from k n) ≤ n * x
sum_low h x k zero u le small = let e : sum_by h [] ≡ 0 = refl in omega arith
sum_low h x k (suc n) u le small =
    let one : sum_by h (upto_from k (suc n)) ≡ h k + sum_by h (upto_from (suc k) n) = sum_by-cons h k (upto_from (suc k) n) in
    let here : h k ≤ x = small k (omega arith) in
    let rest : sum_by h (upto_from (suc k) n) ≤ n * x = sum_low h x (suc k) n u (omega arith) small in
    omega arith

-- those in use, and the next one where the sort has more elements
sum_next : (h : ℕ → ℕ) (x y size u : ℕ) → ((c : ℕ) → c < u → h c ≤ x) → h u ≤ y → sum_by h (upto_from 0 (min size (suc u))) ≤ u * x + cond (ltb u size) y 0
sum_next h x y size u low next = elim (cases_lt u size) [
  | inl lt ↦
      let all : sum_by h (upto_from 0 (min size (suc u))) ≡ sum_by h (upto_from 0 u) + (h u + 0) =
      ap (λ n. sum_by h (upto_from 0 n)) (let e : min size (suc u) ≡ suc u = omega arith in e) ∙ ap (sum_by h) (upto_more 0 u) ∙ sum_by-append h (upto_from 0 u) ((0 + u) ∷ [])
      ∙ ap (λ n. sum_by h (upto_from 0 u) + n) (sum_by-cons h (0 + u) [] ∙ ap (λ k. h k + 0) (let e : 0 + u ≡ u = omega arith in e)) in
      let front : sum_by h (upto_from 0 u) ≤ u * x = sum_low h x 0 u u (omega arith) low in
      let test : cond (ltb u size) y 0 ≡ y = ap (λ b. cond b y 0) (lt-ltb u size lt) in
      omega arith
  | inr le ↦
      let all : sum_by h (upto_from 0 (min size (suc u))) ≡ sum_by h (upto_from 0 size) = ap (λ n. sum_by h (upto_from 0 n)) (let e : min size (suc u) ≡ size = omega arith in e) in
      let front : sum_by h (upto_from 0 size) ≤ size * x = sum_low h x 0 size u (omega arith) low in
      let more : size * x ≤ u * x = mul-le-mul_right x le in
      omega arith
]

occurrences-cons : (z s : ℕ) (sorts : List ℕ) → occurrences z (s ∷ sorts) ≡ cond (eqb s z) 1 0 + occurrences z sorts
occurrences-cons z s sorts = sum_by-cons (λ (x : ℕ). cond (eqb x z) 1 0) s sorts

-- what the classes of all sorts come to
abbrev all_ways : (ℕ → ℕ) → List Var → List Var → (ℕ → ℕ) → List ℕ → ℕ → ℕ
all_ways size first second u sorts z = ways_from (size z) (weight_of first second z) (occurrences z sorts) (u z)

grown_low : (u : ℕ → ℕ) (s c z : ℕ) → c < u s → grown u s c z ≡ u z
grown_low u s c z lt = elim (cases_eq s z) [
  | inl same ↦ ap (λ b. cond b (max (suc c) (u z)) (u z)) (eq-eqb s z same) ∙ (let k : u s ≡ u z = ap u same in let e : max (suc c) (u z) ≡ u z = omega arith in e)
  | inr other ↦ ap (λ b. cond b (max (suc c) (u z)) (u z)) (ne_eqb s z other)
]

-- the factor of a sort that gets one element more
more_factor : (r g h u : ℕ) (b : Bool) → (u * g + cond b h 0) * r ≡ u * (g * r) + cond b (h * r) 0
more_factor r g h u true = add-mul (u * g) h r ∙ ap (λ x. x + h * r) (mul_assoc u g r)
more_factor r g h u false = add-mul (u * g) 0 r ∙ ap (λ x. x + 0 * r) (mul_assoc u g r) ∙ (let e : u * (g * r) + 0 * r ≡ u * (g * r) + 0 = omega arith in e)

one_element : (size : ℕ → ℕ) (first second : List Var) (u : ℕ → ℕ) (s : ℕ) (sorts : List ℕ) (n : ℕ) → s < n
    → u s * product_below (all_ways size first second u sorts) n + cond (ltb (u s) (size s)) (product_below (all_ways size first second (grown u s (u s)) sorts) n) 0
    ≡ product_below (all_ways size first second u (s ∷ sorts)) n
one_element size first second u s sorts n lt =
    let w = weight_of first second s in
    let m = occurrences s sorts in
    let now = all_ways size first second u sorts in
    let next = all_ways size first second (grown u s (u s)) sorts in
    let whole = all_ways size first second u (s ∷ sorts) in
    let r = product_below (others s (all_ways size first second u (s ∷ sorts))) n in
    let own : (z : ℕ) → others s now z ≡ others s whole z = λ z. same_now z in
    let own_next : (z : ℕ) → others s next z ≡ others s whole z = λ z. same_next z in
    let p1 : product_below now n ≡ ways_from (size s) w m (u s) * r = product_split now n s lt ∙ ap (λ x. ways_from (size s) w m (u s) * x) (product_same (others s now) (others s whole) n (λ z l. own z)) in
    let p2 : product_below next n ≡ ways_from (size s) w m (suc (u s)) * r =
    product_split next n s lt ∙ ap (λ k. ways_from (size s) w m k * product_below (others s next) n) (ap (λ b. cond b (max (suc (u s)) (u s)) (u s)) (eq-eqb s s refl) ∙ (let e : max (suc (u s)) (u s) ≡ suc (u s) = omega arith in e))
    ∙ ap (λ x. ways_from (size s) w m (suc (u s)) * x) (product_same (others s next) (others s whole) n (λ z l. own_next z)) in
    let p3 : product_below whole n ≡ (u s * ways_from (size s) w m (u s) + cond (ltb (u s) (size s)) (ways_from (size s) w m (suc (u s))) 0) * r =
    product_split whole n s lt ∙ ap (λ k. ways_from (size s) w k (u s) * r) (occurrences-cons s s sorts ∙ ap (λ b. cond b 1 0 + m) (eq-eqb s s refl) ∙ (let e : 1 + m ≡ suc m = omega arith in e)) ∙ ap (λ x. x * r) (ways_step (size s) w m (u s)) in
    ap (λ x. u s * x + cond (ltb (u s) (size s)) (product_below next n) 0) p1
    ∙ ap (λ x. u s * (ways_from (size s) w m (u s) * r) + cond (ltb (u s) (size s)) x 0) p2
    ∙ sym (more_factor r (ways_from (size s) w m (u s)) (ways_from (size s) w m (suc (u s))) (u s) (ltb (u s) (size s)))
    ∙ sym p3
  where
    occurs_other : (z : ℕ) → eqb s z ≡ false → occurrences z sorts ≡ occurrences z (s ∷ sorts)
    occurs_other z h = sym (occurrences-cons z s sorts ∙ ap (λ b. cond b 1 0 + occurrences z sorts) h ∙ (let e : 0 + occurrences z sorts ≡ occurrences z sorts = omega arith in e))

    same_now : (z : ℕ) → others s (all_ways size first second u sorts) z ≡ others s (all_ways size first second u (s ∷ sorts)) z
    same_now z = elim (cases_Bool (eqb s z)) [
      | inl same ↦ ap (λ b. cond b 1 (all_ways size first second u sorts z)) same ∙ sym (ap (λ b. cond b 1 (all_ways size first second u (s ∷ sorts) z)) same)
      | inr other ↦ ap (λ k. cond (eqb s z) 1 (ways_from (size z) (weight_of first second z) k (u z))) (occurs_other z other)
    ]

    same_next : (z : ℕ) → others s (all_ways size first second (grown u s (u s)) sorts) z ≡ others s (all_ways size first second u (s ∷ sorts)) z
    same_next z = elim (cases_Bool (eqb s z)) [
      | inl same ↦ ap (λ b. cond b 1 (all_ways size first second (grown u s (u s)) sorts z)) same ∙ sym (ap (λ b. cond b 1 (all_ways size first second u (s ∷ sorts) z)) same)
      | inr other ↦
          ap (λ k. cond (eqb s z) 1 (ways_from (size z) (weight_of first second z) (occurrences z sorts) k)) (ap (λ b. cond b (max (suc (u s)) (u z)) (u z)) other)
          ∙ ap (λ k. cond (eqb s z) 1 (ways_from (size z) (weight_of first second z) k (u z))) (occurs_other z other)
    ]

-- over all lists of classes of these sorts
few_lists : (size : ℕ → ℕ) (first second : List Var) (n : ℕ) → ((z : ℕ) → n ≤ z → size z ≡ 0) → OneInterval first → AllByRecursion (λ (p : Var). p.sort < n) first → OneInterval second → AllByRecursion (λ (p : Var). p.sort < n) second
    → (sorts : List ℕ) (u : ℕ → ℕ) → sum_by (λ cs. bit_count first second (used_after u sorts cs)) (class_lists size u sorts) ≤ product_below (all_ways size first second u sorts) n
few_lists size first second n past one known two known_two [] u =
    let e : sum_by (λ cs. bit_count first second (used_after u [] cs)) ([] ∷ []) ≡ bit_count first second u + 0 = sum_by-cons (λ cs. bit_count first second (used_after u [] cs)) [] [] in
    let w : bit_count first second u ≡ product_below (all_ways size first second u []) n = bits_both u n first second one known two known_two in
    omega arith
few_lists size first second n past one known two known_two (s ∷ sorts) u =
    let f : ℕ → ℕ = λ c. sum_by (λ cs. bit_count first second (used_after (grown u s c) sorts cs)) (class_lists size (grown u s c) sorts) in
    let all : sum_by (λ cs. bit_count first second (used_after u (s ∷ sorts) cs)) (class_lists size u (s ∷ sorts)) ≡ sum_by f (upto_from 0 (min (size s) (suc (u s)))) =
    sum_flat (λ cs. bit_count first second (used_after u (s ∷ sorts) cs)) (λ c. map (λ cs. c ∷ cs) (class_lists size (grown u s c) sorts)) (upto_from 0 (min (size s) (suc (u s))))
    ∙ sum_same (λ c. sum_by (λ cs. bit_count first second (used_after u (s ∷ sorts) cs)) (map (λ cs. c ∷ cs) (class_lists size (grown u s c) sorts))) f (upto_from 0 (min (size s) (suc (u s))))
    (λ c. sum_map (λ cs. bit_count first second (used_after u (s ∷ sorts) cs)) (λ cs. c ∷ cs) (class_lists size (grown u s c) sorts)) in
    elim (cases_lt s n) [
      | inl lt ↦
          let low : (c : ℕ) → c < u s → f c ≤ product_below (all_ways size first second u sorts) n =
          λ c below. subst (λ x. f c ≤ x)
          (product_same (all_ways size first second (grown u s c) sorts) (all_ways size first second u sorts) n (λ z l. ap (λ k. ways_from (size z) (weight_of first second z) (occurrences z sorts) k) (grown_low u s c z below)))
          (few_lists size first second n past one known two known_two sorts (grown u s c)) in
          let next : f (u s) ≤ product_below (all_ways size first second (grown u s (u s)) sorts) n = few_lists size first second n past one known two known_two sorts (grown u s (u s)) in
          let sum : sum_by f (upto_from 0 (min (size s) (suc (u s)))) ≤ u s * product_below (all_ways size first second u sorts) n + cond (ltb (u s) (size s)) (product_below (all_ways size first second (grown u s (u s)) sorts) n) 0 =
          sum_next f (product_below (all_ways size first second u sorts) n) (product_below (all_ways size first second (grown u s (u s)) sorts) n) (size s) (u s) low next in
          let step = one_element size first second u s sorts n lt in
          subst (λ x. x ≤ product_below (all_ways size first second u (s ∷ sorts)) n) (sym all) (subst (λ x. sum_by f (upto_from 0 (min (size s) (suc (u s)))) ≤ x) step sum)
      | inr le ↦
          let none : min (size s) (suc (u s)) ≡ 0 = ap (λ k. min k (suc (u s))) (past s le) ∙ (let e : min 0 (suc (u s)) ≡ 0 = omega arith in e) in
          let gone : sum_by f (upto_from 0 (min (size s) (suc (u s)))) ≡ 0 = ap (λ k. sum_by f (upto_from 0 k)) none in
          omega arith
    ]

-- ---- all cases

length_bits : (n : ℕ) → length (bit_lists n) ≡ 2 ^ n
length_bits zero = refl
length_bits (suc n) =
    length-flat_map (λ b. map (λ bs. b ∷ bs) (bit_lists n)) (false ∷ true ∷ [])
    ∙ sum_same (λ b. length (map (λ bs. b ∷ bs) (bit_lists n))) (λ b. 2 ^ n) (false ∷ true ∷ []) (λ b. length-map (bit_lists n) (λ bs. b ∷ bs) ∙ length_bits n)
    ∙ sum_by-cons (λ (b : Bool). 2 ^ n) false (true ∷ []) ∙ ap (λ x. 2 ^ n + x) (sum_by-cons (λ (b : Bool). 2 ^ n) true [])
    ∙ (let e : 2 ^ n + (2 ^ n + 0) ≡ 2 ^ n * 2 = omega arith in e) ∙ sym (two_times n)
  where
    two_times : (n : ℕ) → 2 ^ suc n ≡ 2 ^ n * 2
    two_times n = ap (λ k. 2 ^ k) (let e : suc n ≡ n + 1 = omega arith in e) ∙ pow-add 2 n 1

sum_const : {X : Type 0} (k : ℕ) (xs : List X) → sum_by (λ x. k) xs ≡ length xs * k
sum_const k [] = let e : 0 ≡ 0 * k = omega arith in e
sum_const k (x ∷ xs) = sum_by-cons (λ x. k) x xs ∙ ap (λ n. k + n) (sum_const k xs) ∙ (let e : k + length xs * k ≡ suc (length xs) * k = omega arith in e)

length_class : (spec : Spec) (a b : ℕ) (t : Target) (cs : List ℕ)
    → length (class_cases spec a b t cs) ≡ bit_count (op_at spec a).params (op_at spec b).params (used_after (λ z. 0) (pattern_sorts spec a b t) cs)
length_class spec a b t cs =
    let count = class_count (pattern_sorts spec a b t) cs in
    let one = interval_classes (class_count (pattern_sorts spec a b t) cs) (op_at spec a).params in
    let two = interval_classes (class_count (pattern_sorts spec a b t) cs) (op_at spec b).params in
    let used : (z : ℕ) → class_count (pattern_sorts spec a b t) cs z ≡ used_after (λ z. 0) (pattern_sorts spec a b t) cs z =
    λ z. sym (used_count (λ z. 0) (pattern_sorts spec a b t) cs z ∙ (let e : max 0 (class_count (pattern_sorts spec a b t) cs z) ≡ class_count (pattern_sorts spec a b t) cs z = omega arith in e)) in
    length-flat_map (λ ba. map (λ bb. case_at a b t cs ba bb) (bit_lists two)) (bit_lists one)
    ∙ sum_same (λ ba. length (map (λ bb. case_at a b t cs ba bb) (bit_lists two))) (λ ba. 2 ^ two) (bit_lists one) (λ ba. length-map (bit_lists two) (λ bb. case_at a b t cs ba bb) ∙ length_bits two)
    ∙ sum_const (2 ^ two) (bit_lists one)
    ∙ ap (λ x. x * 2 ^ two) (length_bits one)
    ∙ ap (λ k. 2 ^ k * 2 ^ two) (classes_same (class_count (pattern_sorts spec a b t) cs) (used_after (λ z. 0) (pattern_sorts spec a b t) cs) (op_at spec a).params used)
    ∙ ap (λ k. 2 ^ interval_classes (used_after (λ z. 0) (pattern_sorts spec a b t) cs) (op_at spec a).params * 2 ^ k) (classes_same (class_count (pattern_sorts spec a b t) cs) (used_after (λ z. 0) (pattern_sorts spec a b t) cs) (op_at spec b).params used)

known_params : (spec : Spec) (ops : List Op) (i : ℕ) → AllByRecursion (OpFits spec) ops → AllByRecursion (λ (p : Var). p.sort < length spec.sorts) (get_or ops i no_op).params
known_params spec [] i h = tt
known_params spec (o ∷ ops) zero h = h.0.sorts_known
known_params spec (o ∷ ops) (suc i) h = known_params spec ops i h.1

none_past : (sorts : List Sort) (z : ℕ) → length sorts ≤ z → (get_or sorts z no_sort).size ≡ 0
none_past [] z le = refl
none_past (s ∷ sorts) zero le = absurd (omega arith)
none_past (s ∷ sorts) (suc z) le = none_past sorts z (omega arith)

few_shape : (spec : Spec) (a b : ℕ) (t : Target) → IsWellFormed spec → length (target_cases spec a b t) ≤ shape_cases spec a b t
few_shape spec a b t wf =
    let first = (op_at spec a).params in
    let second = (op_at spec b).params in
    let sorts = pattern_sorts spec a b t in
    let all : length (target_cases spec a b t) ≡ sum_by (λ cs. bit_count (op_at spec a).params (op_at spec b).params (used_after (λ z. 0) (pattern_sorts spec a b t) cs)) (class_lists (size_of spec) (λ z. 0) (pattern_sorts spec a b t)) =
    length-flat_map (class_cases spec a b t) (class_lists (size_of spec) (λ z. 0) (pattern_sorts spec a b t))
    ∙ sum_same (λ cs. length (class_cases spec a b t cs)) (λ cs. bit_count (op_at spec a).params (op_at spec b).params (used_after (λ z. 0) (pattern_sorts spec a b t) cs)) (class_lists (size_of spec) (λ z. 0) (pattern_sorts spec a b t)) (λ cs. length_class spec a b t cs) in
    let few = few_lists (size_of spec) (op_at spec a).params (op_at spec b).params (length spec.sorts) (λ z le. none_past spec.sorts z le)
    (op_one_interval spec spec.ops a wf.ops) (known_params spec spec.ops a wf.ops) (op_one_interval spec spec.ops b wf.ops) (known_params spec spec.ops b wf.ops) (pattern_sorts spec a b t) (λ z. 0) in
    let ways : product_below (all_ways (size_of spec) (op_at spec a).params (op_at spec b).params (λ z. 0) (pattern_sorts spec a b t)) (length spec.sorts) ≡ shape_cases spec a b t =
    product_same (all_ways (size_of spec) (op_at spec a).params (op_at spec b).params (λ z. 0) (pattern_sorts spec a b t)) (sort_cases spec a b t) (length spec.sorts)
    (λ z lt. ways_split (size_of spec z) (weight_of (op_at spec a).params (op_at spec b).params z) (occurrences z (pattern_sorts spec a b t))) in
    subst (λ x. x ≤ shape_cases spec a b t) (sym all) (subst (λ x. sum_by (λ cs. bit_count (op_at spec a).params (op_at spec b).params (used_after (λ z. 0) (pattern_sorts spec a b t) cs)) (class_lists (size_of spec) (λ z. 0) (pattern_sorts spec a b t)) ≤ x) ways few)

fewer_filtered : {X : Type 0} (p : X → Bool) (xs : List X) → length (filter p xs) ≤ length xs
fewer_filtered p xs = subst (λ n. n ≤ length xs) (sym (length-filter p xs)) (count_by-le-length p xs)

few_pair : (spec : Spec) (a b : ℕ) → IsWellFormed spec → length (pair_cases spec a b) ≤ pair_count spec a b
few_pair spec a b wf =
    let touched : length (pair_cases spec a b) ≤ length (flat_map (target_cases spec a b) (targets spec)) = fewer_filtered (is_touched_case spec) (flat_map (target_cases spec a b) (targets spec)) in
    let all : length (flat_map (target_cases spec a b) (targets spec)) ≡ sum_by (λ t. length (target_cases spec a b t)) (targets spec) = length-flat_map (target_cases spec a b) (targets spec) in
    let few : sum_by (λ t. length (target_cases spec a b t)) (targets spec) ≤ pair_count spec a b = sum_by-le-sum_by (λ t. length (target_cases spec a b t)) (shape_cases spec a b) (targets spec) (λ t. few_shape spec a b t wf) in
    omega arith

few_row : (spec : Spec) (a : ℕ) → IsWellFormed spec → length (flat_map (pair_cases spec a) (upto_from a (length spec.ops - a))) ≤ row_count spec a
few_row spec a wf =
    let all : length (flat_map (pair_cases spec a) (upto_from a (length spec.ops - a))) ≡ sum_by (λ b. length (pair_cases spec a b)) (upto_from a (length spec.ops - a)) = length-flat_map (pair_cases spec a) (upto_from a (length spec.ops - a)) in
    let few : sum_by (λ b. length (pair_cases spec a b)) (upto_from a (length spec.ops - a)) ≤ row_count spec a = sum_by-le-sum_by (λ b. length (pair_cases spec a b)) (pair_count spec a) (upto_from a (length spec.ops - a)) (λ b. few_pair spec a b wf) in
    omega arith

pub few_touched : (spec : Spec) → IsWellFormed spec → length (touched_cases spec) ≤ case_count spec
few_touched spec wf =
    let all : length (touched_cases spec) ≡ sum_by (λ a. length (flat_map (pair_cases spec a) (upto_from a (length spec.ops - a)))) (upto_from 0 (length spec.ops)) =
    length-flat_map (λ a. flat_map (pair_cases spec a) (upto_from a (length spec.ops - a))) (upto_from 0 (length spec.ops)) in
    let few : sum_by (λ a. length (flat_map (pair_cases spec a) (upto_from a (length spec.ops - a)))) (upto_from 0 (length spec.ops)) ≤ case_count spec =
    sum_by-le-sum_by (λ a. length (flat_map (pair_cases spec a) (upto_from a (length spec.ops - a)))) (row_count spec) (upto_from 0 (length spec.ops)) (λ a. few_row spec a wf) in
    omega arith
