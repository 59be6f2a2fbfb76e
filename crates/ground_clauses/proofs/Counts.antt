-- Ways to split, and bounds on sums and products of them.
use Rattle.std.proofs.Common.{◌≡◌, ℕ, zero, suc, ◌+◌, ◌-◌, ◌*◌, ◌^◌, ◌<◌, ◌≤◌, min, Bool, true, false, cond, ◌&&◌, eqb, ltb, List, [], ◌∷◌, length, get_or, set, replicate, refl, sym, ap, subst, ◌∙◌, inl, inr, lit≤, arith}
use Rattle.std.specs.Prelude.{MatchBool}
use Rattle.std.specs.List.{AllByRecursion}
use Rattle.std.proofs.lemmas.Bool.{cases_eq, cases_lt, eq-eqb, ne_eqb, le-ltb, lt-ltb}
use Rattle.std.proofs.lemmas.List.Sums.{sum_by-cons}
use Rattle.std.proofs.lemmas.List.{get_or-set_other, get_or-set_same, length-set}
use Rattle.std.proofs.lemmas.Nat.{pow-add}
use Rattle.std.proofs.Math.Nat.{add-mul, mul-add, mul-le-mul_left, mul-le-mul_right, mul_assoc, mul_comm, mul_left_comm, one-le-pow, pow-le-pow_right, pow-succ', suc-mul}
use Rattle.ground_clauses.specs.Counting.{IsSplits, class_ways, intervals, occurrences, product_below, splits, sum_upto}
use Rattle.spec_model.specs.Fits.{OneInterval}
use Rattle.spec_model.specs.declared.clause.Var.{Var}

-- nothing is split into more classes than there are things
splits_past : (n k : ℕ) → n < k → splits n k ≡ 0
splits_past zero zero lt = absurd (omega arith)
splits_past zero (suc k) lt = refl
splits_past (suc n) zero lt = absurd (omega arith)
splits_past (suc n) (suc k) lt =
    let one : splits n (suc k) ≡ 0 = splits_past n (suc k) (omega arith) in
    let two : splits n k ≡ 0 = splits_past n k (omega arith) in
    ap (λ x. suc k * x + splits n k) one ∙ ap (λ x. suc k * 0 + x) two ∙ (let e : suc k * 0 + 0 ≡ 0 = omega arith in e)

-- a sum whose further terms are 0
sum_stops : (f : ℕ → ℕ) (n more : ℕ) → ((k : ℕ) → n < k → f k ≡ 0) → sum_upto f (n + more) ≡ sum_upto f n
sum_stops f n zero h = ap (sum_upto f) (let e : n + 0 ≡ n = omega arith in e)
sum_stops f n (suc more) h =
    ap (sum_upto f) (let e : n + suc more ≡ suc (n + more) = omega arith in e)
    ∙ ap (λ x. sum_upto f (n + more) + x) (h (suc (n + more)) (omega arith))
    ∙ (let e : sum_upto f (n + more) + 0 ≡ sum_upto f (n + more) = omega arith in e)
    ∙ sum_stops f n more h

-- only the first classes matter
pub few_classes : (size n m : ℕ) → class_ways size n m ≡ class_ways (min size n) n m
few_classes size n m = elim (cases_lt n size) [
  | inl lt ↦
      let f : ℕ → ℕ = λ k. splits n k * 2 ^ (k * m) in
      ap (λ s. class_ways s n m) (let e : size ≡ n + (size - n) = omega arith in e)
      ∙ sum_stops (λ k. splits n k * 2 ^ (k * m)) n (size - n) (λ k h. ap (λ x. x * 2 ^ (k * m)) (splits_past n k h) ∙ (let e : 0 * 2 ^ (k * m) ≡ 0 = omega arith in e))
      ∙ ap (λ s. class_ways s n m) (let e : n ≡ min size n = omega arith in e)
  | inr le ↦ ap (λ s. class_ways s n m) (let e : size ≡ min size n = omega arith in e)
]

-- ---- bounds

-- the terms before the last one
abbrev front_sum : (ℕ → ℕ) → ℕ → ℕ
front_sum f zero = 0
front_sum f (suc n) = sum_upto f n

front_last : (f : ℕ → ℕ) (n : ℕ) → sum_upto f n ≡ front_sum f n + f n
front_last f zero = let e : f 0 ≡ 0 + f 0 = omega arith in e
front_last f (suc n) = refl

-- a term, without what it is multiplied by
abbrev way : ℕ → ℕ → ℕ → ℕ
way n m k = splits n k * 2 ^ (k * m)

more_bits : (k m : ℕ) → 2 ^ (suc k * m) ≡ 2 ^ m * 2 ^ (k * m)
more_bits k m = ap (λ e. 2 ^ e) (let h : suc k * m ≡ k * m + m = suc-mul k m in let e : suc k * m ≡ m + k * m = omega arith in e) ∙ pow-add 2 m (k * m)

one_term : (k s t p q w : ℕ) → q ≡ w * p → (suc k * s + t) * q ≡ suc k * (s * q) + w * (t * p)
one_term k s t p q w is =
    add-mul (suc k * s) t q
    ∙ ap (λ x. x + t * q) (mul_assoc (suc k) s q)
    ∙ ap (λ x. suc k * (s * q) + x) (ap (λ x. t * x) is ∙ mul_left_comm t w p)

one_bound : (k a g v w x y : ℕ) → a ≤ k * g + w * v → g ≡ v + y → a + (suc k * x + w * y) ≤ suc k * (g + x) + w * g
one_bound k a g v w x y le is =
    let e1 : suc k * (g + x) ≡ suc k * g + suc k * x = mul-add (suc k) g x in
    let e2 : suc k * g ≡ k * g + g = suc-mul k g in
    let e3 : w * g ≡ w * v + w * y = ap (λ n. w * n) is ∙ mul-add w v y in
    omega arith

more_ways : (n m k : ℕ) → class_ways k (suc n) m ≤ k * class_ways k n m + 2 ^ m * front_sum (way n m) k
more_ways n m zero = omega arith
more_ways n m (suc k) =
    subst (λ t. class_ways k (suc n) m + t ≤ suc k * (class_ways k n m + way n m (suc k)) + 2 ^ m * class_ways k n m)
    (sym (one_term k (splits n (suc k)) (splits n k) (2 ^ (k * m)) (2 ^ (suc k * m)) (2 ^ m) (more_bits k m)))
    (one_bound k (class_ways k (suc n) m) (class_ways k n m) (front_sum (way n m) k) (2 ^ m) (way n m (suc k)) (way n m k) (more_ways n m k) (front_last (way n m) k))

few_more_ways : (n m k : ℕ) → k ≤ 12 → 2 ^ m ≤ 4 → class_ways k (suc n) m ≤ 16 * class_ways k n m
few_more_ways n m k small bits =
    let g : ℕ = class_ways k n m in
    let one : class_ways k (suc n) m ≤ k * class_ways k n m + 2 ^ m * front_sum (way n m) k = more_ways n m k in
    let last : class_ways k n m ≡ front_sum (way n m) k + way n m k = front_last (way n m) k in
    let less : front_sum (way n m) k ≤ class_ways k n m = omega arith in
    let two : k * class_ways k n m ≤ 12 * class_ways k n m = mul-le-mul_right (class_ways k n m) small in
    let three : 2 ^ m * front_sum (way n m) k ≤ 4 * front_sum (way n m) k = mul-le-mul_right (front_sum (way n m) k) bits in
    by_parts (class_ways k (suc n) m) (class_ways k n m) (front_sum (way n m) k) (k * class_ways k n m) (2 ^ m * front_sum (way n m) k) one less two three
  where
    by_parts : (a g v kg wv : ℕ) → a ≤ kg + wv → v ≤ g → kg ≤ 12 * g → wv ≤ 4 * v → a ≤ 16 * g
    by_parts a g v kg wv h1 h2 h3 h4 = omega arith

no_things : (m k : ℕ) → class_ways k 0 m ≡ 1
no_things m zero = ap (λ e. 1 * 2 ^ e) (let e : 0 * m ≡ 0 = omega arith in e)
no_things m (suc k) = ap (λ x. x + 0 * 2 ^ (suc k * m)) (no_things m k) ∙ (let e : 1 + 0 * 2 ^ (suc k * m) ≡ 1 = omega arith in e)

pub small_ways : (n m k : ℕ) → k ≤ 12 → 2 ^ m ≤ 4 → class_ways k n m ≤ 16 ^ n
small_ways zero m k small bits = let e : class_ways k 0 m ≡ 1 = no_things m k in let o : 16 ^ 0 ≡ 1 = refl in omega arith
small_ways (suc n) m k small bits =
    let one : class_ways k (suc n) m ≤ 16 * class_ways k n m = few_more_ways n m k small bits in
    let two : class_ways k n m ≤ 16 ^ n = small_ways n m k small bits in
    let three : 16 ^ suc n ≡ 16 * 16 ^ n = pow-succ' 16 n in
    omega arith

-- of at most twelve things
pub small_term : (n m k : ℕ) → n ≤ 12 → k ≤ 12 → 2 ^ m ≤ 4 → way n m k ≤ 16 ^ 12
small_term n m k few small bits =
    let one : class_ways k n m ≤ 16 ^ n = small_ways n m k small bits in
    let two : 16 ^ n ≤ 16 ^ 12 = pow-le-pow_right (lit≤ tt) few in
    let last : class_ways k n m ≡ front_sum (way n m) k + way n m k = front_last (way n m) k in
    omega arith

small_splits_pow : (n k : ℕ) → k ≤ 12 → splits n k ≤ 13 ^ n
small_splits_pow zero zero small = lit≤ tt
small_splits_pow zero (suc k) small = omega arith
small_splits_pow (suc n) zero small = omega arith
small_splits_pow (suc n) (suc k) small =
    let one : splits n (suc k) ≤ 13 ^ n = small_splits_pow n (suc k) small in
    let two : splits n k ≤ 13 ^ n = small_splits_pow n k (omega arith) in
    let three : suc k * splits n (suc k) ≤ 12 * splits n (suc k) = mul-le-mul_right (splits n (suc k)) small in
    let four : 13 ^ suc n ≡ 13 * 13 ^ n = pow-succ' 13 n in
    omega arith

pub small_splits : (n k : ℕ) → n ≤ 12 → k ≤ 12 → splits n k ≤ 13 ^ 12
small_splits n k few small =
    let one : splits n k ≤ 13 ^ n = small_splits_pow n k small in
    let two : 13 ^ n ≤ 13 ^ 12 = pow-le-pow_right (lit≤ tt) few in
    omega arith

-- ---- the elements of the sorts, one sort after the other

-- how many stand for sorts before this one
abbrev pub before_sort : ℕ → List ℕ → ℕ
before_sort z [] = 0
before_sort z (s ∷ sorts) = cond (ltb s z) 1 0 + before_sort z sorts

one_sort : (s z : ℕ) → cond (ltb s (suc z)) 1 0 ≡ cond (ltb s z) 1 0 + cond (eqb s z) 1 0
one_sort s z = elim (cases_lt s z) [
  | inl lt ↦ ap (λ b. cond b 1 0) (lt-ltb s (suc z) (omega arith)) ∙ ap (λ b. cond b 1 0 + 0) (sym (lt-ltb s z lt)) ∙ ap (λ b. cond (ltb s z) 1 0 + cond b 1 0) (sym (ne_eqb s z (λ e. omega (arith, e))))
  | inr le ↦ elim (cases_eq s z) [
    | inl same ↦ ap (λ b. cond b 1 0) (lt-ltb s (suc z) (omega (arith, same))) ∙ ap (λ b. cond b 1 0 + 1) (sym (le-ltb s z le)) ∙ ap (λ b. cond (ltb s z) 1 0 + cond b 1 0) (sym (eq-eqb s z same))
    | inr other ↦ ap (λ b. cond b 1 0) (le-ltb s (suc z) (omega (arith, other))) ∙ ap (λ b. cond b 1 0 + 0) (sym (le-ltb s z le)) ∙ ap (λ b. cond (ltb s z) 1 0 + cond b 1 0) (sym (ne_eqb s z other))
  ]
]

occurrences-cons : (z s : ℕ) (sorts : List ℕ) → occurrences z (s ∷ sorts) ≡ cond (eqb s z) 1 0 + occurrences z sorts
occurrences-cons z s sorts = sum_by-cons (λ y. cond (eqb y z) 1 0) s sorts

pub next_sorts : (z : ℕ) (sorts : List ℕ) → before_sort (suc z) sorts ≡ before_sort z sorts + occurrences z sorts
next_sorts z [] = refl
next_sorts z (s ∷ sorts) =
    let one : cond (ltb s (suc z)) 1 0 ≡ cond (ltb s z) 1 0 + cond (eqb s z) 1 0 = one_sort s z in
    let two : before_sort (suc z) sorts ≡ before_sort z sorts + occurrences z sorts = next_sorts z sorts in
    subst (λ n. before_sort (suc z) (s ∷ sorts) ≡ before_sort z (s ∷ sorts) + n) (sym (occurrences-cons z s sorts))
    (by_parts (cond (ltb s (suc z)) 1 0) (cond (ltb s z) 1 0) (cond (eqb s z) 1 0) (before_sort (suc z) sorts) (before_sort z sorts) (occurrences z sorts) one two)
  where
    by_parts : (a b c d e f : ℕ) → a ≡ b + c → d ≡ e + f → a + d ≡ b + e + (c + f)
    by_parts a b c d e f h k = omega arith

at_most_one : (b : Bool) → cond b 1 0 ≤ 1
at_most_one true = lit≤ tt
at_most_one false = omega arith

pub before_few : (z : ℕ) (sorts : List ℕ) → before_sort z sorts ≤ length sorts
before_few z [] = omega arith
before_few z (s ∷ sorts) =
    let one : cond (ltb s z) 1 0 ≤ 1 = at_most_one (ltb s z) in
    let two : before_sort z sorts ≤ length sorts = before_few z sorts in
    omega arith

pub product_small : (f : ℕ → ℕ) (sorts : List ℕ) (z : ℕ) → ((y : ℕ) → f y ≤ 16 ^ occurrences y sorts) → product_below f z ≤ 16 ^ before_sort z sorts
product_small f sorts zero h = one-le-pow (before_sort 0 sorts) 16 (lit≤ tt)
product_small f sorts (suc z) h =
    let one : product_below f z ≤ 16 ^ before_sort z sorts = product_small f sorts z h in
    let two : product_below f z * f z ≤ 16 ^ before_sort z sorts * f z = mul-le-mul_right (f z) one in
    let three : 16 ^ before_sort z sorts * f z ≤ 16 ^ before_sort z sorts * 16 ^ occurrences z sorts = mul-le-mul_left (16 ^ before_sort z sorts) (h z) in
    let four : 16 ^ before_sort (suc z) sorts ≡ 16 ^ before_sort z sorts * 16 ^ occurrences z sorts = ap (λ n. 16 ^ n) (next_sorts z sorts) ∙ pow-add 16 (before_sort z sorts) (occurrences z sorts) in
    omega arith

intervals-cons : (z : ℕ) (p : Var) (params : List Var) → intervals z (p ∷ params) ≡ cond (p.interval && eqb p.sort z) 1 0 + intervals z params
intervals-cons z p params = sum_by-cons (λ (q : Var). cond (q.interval && eqb q.sort z) 1 0) p params

no_intervals : (z : ℕ) (rest : List Var) → AllByRecursion (λ (r : Var). r.interval ≡ false) rest → intervals z rest ≡ 0
no_intervals z [] h = refl
no_intervals z (q ∷ rest) h = intervals-cons z q rest ∙ ap (λ b. cond (b && eqb q.sort z) 1 0 + intervals z rest) h.0 ∙ (let r : intervals z rest ≡ 0 = no_intervals z rest h.1 in let e : 0 + intervals z rest ≡ 0 = omega arith in e)

-- an operation has at most one
pub few_intervals : (z : ℕ) (params : List Var) → OneInterval params → intervals z params ≤ 1
few_intervals z [] h = lit≤ tt
few_intervals z (p ∷ params) h = subst (λ n. n ≤ 1) (sym (intervals-cons z p params)) (by_kind p.interval (eqb p.sort z) (few_intervals z params) h)
  where
    by_kind : (b s : Bool) → (OneInterval params → intervals z params ≤ 1) → MatchBool b (AllByRecursion (λ (r : Var). r.interval ≡ false) params) (OneInterval params) → cond (b && s) 1 0 + intervals z params ≤ 1
    by_kind true s go k = let one : cond s 1 0 ≤ 1 = at_most_one s in let e : intervals z params ≡ 0 = no_intervals z params k in omega arith
    by_kind false s go k = let r : intervals z params ≤ 1 = go k in omega arith

-- ---- steps of the code

pub splits_none : (row : List ℕ) → row ≡ set {A = ℕ} (replicate 13 0) 0 1 → IsSplits 0 row
splits_none row is = record {
  size = ap length is;
  ways = λ k small. ap (λ r. get_or r k 0) is ∙ at_zero k;
}
  where
    at_zero : (k : ℕ) → get_or (set {A = ℕ} (replicate 13 0) 0 1) k 0 ≡ splits 0 k
    at_zero zero = refl
    at_zero (suc k) = blank k 12
      where
        blank : (k n : ℕ) → get_or {A = ℕ} (replicate n 0) k 0 ≡ 0
        blank k zero = refl
        blank zero (suc n) = refl
        blank (suc k) (suc n) = blank k n

-- a row that is made up to a place
pub record IsMade (n k : ℕ) (next : List ℕ) : Type 0 where
  pub size : length next ≡ 13
  pub ways : (j : ℕ) → j < k → get_or next j 0 ≡ splits (suc n) j

pub made_more : (n k : ℕ) (row next : List ℕ) (x : ℕ) → IsSplits n row → k < 13 → 1 ≤ k → IsMade n k next → x ≡ k * get_or row k 0 + get_or row (k - 1) 0 → IsMade n (k + 1) (set next k x)
made_more n zero row next x rows lt le made is = absurd (omega arith)
made_more n (suc k) row next x rows lt le made is = record {
  size = length-set next (suc k) x ∙ made.size;
  ways = λ j below. elim (cases_eq j (suc k)) [
    | inl same ↦
        ap (λ i. get_or (set next (suc k) x) i 0) same
        ∙ get_or-set_same next (suc k) x 0 (subst (λ m. suc k < m) (sym made.size) lt)
        ∙ is
        ∙ ap (λ y. suc k * y + get_or row (suc k - 1) 0) (rows.ways (suc k) (omega arith))
        ∙ ap (λ y. suc k * splits n (suc k) + y) (ap (λ i. get_or row i 0) (let e : suc k - 1 ≡ k = omega arith in e) ∙ rows.ways k (omega arith))
        ∙ ap (splits (suc n)) (sym same)
    | inr other ↦ get_or-set_other next (suc k) j x 0 other ∙ made.ways j (omega (arith, other))
  ];
}

pub row_small : (n k : ℕ) (row : List ℕ) → IsSplits n row → n ≤ 12 → k ≤ 12 → get_or row k 0 ≤ 13 ^ 12
row_small n k row is few small = subst (λ x. x ≤ 13 ^ 12) (sym (is.ways k small)) (small_splits n k few small)

pub bits_few : (m : ℕ) → m ≤ 2 → 2 ^ m ≤ 4
bits_few m le = pow-le-pow_right {n = 2} (lit≤ tt) {i = m} {j = 2} le

pub next_weight : (k m weight w : ℕ) → weight ≡ 2 ^ (k * m) → w ≡ 2 ^ m → weight * w ≡ 2 ^ ((k + 1) * m)
next_weight k m weight w is bits =
    ap (λ x. x * w) is ∙ ap (λ x. 2 ^ (k * m) * x) bits ∙ mul_comm (2 ^ (k * m)) (2 ^ m) ∙ sym (more_bits k m) ∙ ap (λ j. 2 ^ (j * m)) (let e : suc k ≡ k + 1 = omega arith in e)

pub next_way : (n m k : ℕ) (row : List ℕ) (weight : ℕ) → IsSplits n row → k < 12 → weight ≡ 2 ^ ((k + 1) * m) → get_or row (k + 1) 0 * weight ≡ splits n (k + 1) * 2 ^ ((k + 1) * m)
next_way n m k row weight is lt bits = ap (λ x. x * weight) (is.ways (k + 1) (omega arith)) ∙ ap (λ x. splits n (k + 1) * x) bits

pub next_ways : (n m k ways term : ℕ) → ways ≡ class_ways k n m → term ≡ splits n (k + 1) * 2 ^ ((k + 1) * m) → ways + term ≡ class_ways (k + 1) n m
next_ways n m k ways term is more =
    let one : suc k ≡ k + 1 = omega arith in
    ap (λ x. x + term) is ∙ ap (λ x. class_ways k n m + x) (more ∙ ap (λ j. splits n j * 2 ^ (j * m)) (sym one)) ∙ ap (λ j. class_ways j n m) one

pub ways_fit : (n m k : ℕ) → n ≤ 12 → k ≤ 12 → m ≤ 2 → class_ways k n m ≤ 16 ^ 12
ways_fit n m k few small bits =
    let one : class_ways k n m ≤ 16 ^ n = small_ways n m k small (bits_few m bits) in
    let two : 16 ^ n ≤ 16 ^ 12 = pow-le-pow_right {n = 16} (lit≤ tt) {i = n} {j = 12} few in
    omega arith

pub first_way : (n m : ℕ) (row : List ℕ) → IsSplits n row → get_or row 0 0 ≡ class_ways 0 n m
first_way n m row is = is.ways 0 (lit≤ tt) ∙ (let e : splits n 0 ≡ splits n 0 * 1 = omega arith in e) ∙ ap (λ x. splits n 0 * 2 ^ x) (let e : 0 ≡ 0 * m = omega arith in e)
