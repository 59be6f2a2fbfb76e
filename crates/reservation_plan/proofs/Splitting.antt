-- Ways to split, by the first element, and products of them.
use Rattle.std.proofs.Common.{◌≡◌, ℕ, zero, suc, ◌+◌, ◌*◌, ◌<◌, eqb, ltb, cond, refl, sym, ap, ◌∙◌, inl, inr, arith}
use Rattle.std.proofs.lemmas.Bool.{cases_eq, eq-eqb, ne_eqb, le-ltb, lt-ltb}
use Rattle.std.proofs.Math.Nat.{add-mul, mul-add, mul_assoc, mul_comm, mul_left_comm}
use Rattle.ground_clauses.specs.Counting.{product_below, splits, sum_upto}

-- ---- one sort: an element more joins one of the classes in use, or has the next one

-- the sum over the classes of one element
abbrev steps : ℕ → (ℕ → ℕ) → ℕ → ℕ
steps size f u = u * f u + cond (ltb u size) (f (suc u)) 0

-- the sum over the classes of n elements, where u classes are in use
abbrev pub ways_from : ℕ → (ℕ → ℕ) → ℕ → ℕ → ℕ
ways_from size f zero u = f u
ways_from size f (suc n) u = ways_from size (steps size f) n u

pub ways_step : (size : ℕ) (f : ℕ → ℕ) (n u : ℕ) → ways_from size f (suc n) u ≡ u * ways_from size f n u + cond (ltb u size) (ways_from size f n (suc u)) 0
ways_step size f zero u = refl
ways_step size f (suc n) u = ways_step size (steps size f) n u

first_split : (f : ℕ → ℕ) (k : ℕ) → sum_upto (λ j. splits 0 j * f j) k ≡ f 0
first_split f zero = let e : 1 * f 0 ≡ f 0 = omega arith in e
first_split f (suc k) = ap (λ x. x + 0 * f (suc k)) (first_split f k) ∙ (let e : f 0 + 0 * f (suc k) ≡ f 0 = omega arith in e)

one_more : (n k x y : ℕ) → splits n (suc k) * (suc k * x + y) + splits n k * x ≡ splits (suc n) (suc k) * x + splits n (suc k) * y
one_more n k x y =
    let a = splits n (suc k) in
    let b = splits n k in
    let e1 : a * (suc k * x + y) ≡ a * (suc k * x) + a * y = mul-add a (suc k * x) y in
    let e2 : a * (suc k * x) ≡ suc k * (a * x) = mul_left_comm a (suc k) x in
    let e3 : (suc k * a + b) * x ≡ suc k * a * x + b * x = add-mul (suc k * a) b x in
    let e4 : suc k * a * x ≡ suc k * (a * x) = mul_assoc (suc k) a x in
    omega arith

-- up to j classes, where the next one can be had too
part_split : (size : ℕ) (f : ℕ → ℕ) (n j : ℕ) → j < size → sum_upto (λ k. splits n k * steps size f k) j ≡ sum_upto (λ k. splits (suc n) k * f k) j + splits n j * f (suc j)
part_split size f n zero lt =
    ap (λ b. splits n 0 * (0 * f 0 + cond b (f 1) 0)) (lt-ltb 0 size lt) ∙ (let e1 : splits n 0 * (0 * f 0 + f 1) ≡ splits n 0 * f 1 = ap (λ x. splits n 0 * x) (let e : 0 * f 0 + f 1 ≡ f 1 = omega arith in e) in let e : splits n 0 * (0 * f 0 + f 1) ≡ 0 * f 0 + splits n 0 * f 1 = omega arith in e)
part_split size f n (suc j) lt =
    let old : sum_upto (λ k. splits n k * steps size f k) j ≡ sum_upto (λ k. splits (suc n) k * f k) j + splits n j * f (suc j) = part_split size f n j (omega arith) in
    let new : splits n (suc j) * (suc j * f (suc j) + f (suc (suc j))) + splits n j * f (suc j) ≡ splits (suc n) (suc j) * f (suc j) + splits n (suc j) * f (suc (suc j)) = one_more n j (f (suc j)) (f (suc (suc j))) in
    ap (λ b. sum_upto (λ k. splits n k * steps size f k) j + splits n (suc j) * (suc j * f (suc j) + cond b (f (suc (suc j))) 0)) (lt-ltb (suc j) size lt)
    ∙ (let e : sum_upto (λ k. splits n k * steps size f k) j + splits n (suc j) * (suc j * f (suc j) + f (suc (suc j))) ≡ sum_upto (λ k. splits (suc n) k * f k) j + splits (suc n) (suc j) * f (suc j) + splits n (suc j) * f (suc (suc j)) = omega arith in e)

all_split : (size : ℕ) (f : ℕ → ℕ) (n : ℕ) → sum_upto (λ k. splits n k * steps size f k) size ≡ sum_upto (λ k. splits (suc n) k * f k) size
all_split zero f n =
    let e1 : splits n 0 * (0 * f 0 + 0) ≡ splits n 0 * 0 = ap (λ x. splits n 0 * x) (let e : 0 * f 0 + 0 ≡ 0 = omega arith in e) in
    let e : splits n 0 * (0 * f 0 + 0) ≡ 0 * f 0 = omega arith in e
all_split (suc j) f n =
    let old : sum_upto (λ k. splits n k * steps (suc j) f k) j ≡ sum_upto (λ k. splits (suc n) k * f k) j + splits n j * f (suc j) = part_split (suc j) f n j (omega arith) in
    let new : splits n (suc j) * (suc j * f (suc j) + 0) + splits n j * f (suc j) ≡ splits (suc n) (suc j) * f (suc j) + splits n (suc j) * 0 = one_more n j (f (suc j)) 0 in
    ap (λ b. sum_upto (λ k. splits n k * steps (suc j) f k) j + splits n (suc j) * (suc j * f (suc j) + cond b (f (suc (suc j))) 0)) (le-ltb (suc j) (suc j) (omega arith))
    ∙ (let e : sum_upto (λ k. splits n k * steps (suc j) f k) j + splits n (suc j) * (suc j * f (suc j) + 0) ≡ sum_upto (λ k. splits (suc n) k * f k) j + splits (suc n) (suc j) * f (suc j) = omega arith in e)

pub ways_split : (size : ℕ) (f : ℕ → ℕ) (n : ℕ) → ways_from size f n 0 ≡ sum_upto (λ k. splits n k * f k) size
ways_split size f zero = sym (first_split f size)
ways_split size f (suc n) = ways_split size (steps size f) n ∙ all_split size f n

-- ---- products over all sorts

pub product_same : (f g : ℕ → ℕ) (n : ℕ) → ((z : ℕ) → z < n → f z ≡ g z) → product_below f n ≡ product_below g n
product_same f g zero h = refl
product_same f g (suc n) h = ap (λ x. x * f n) (product_same f g n (λ z lt. h z (omega arith))) ∙ ap (λ x. product_below g n * x) (h n (omega arith))

pub product_ones : (n : ℕ) → product_below (λ z. 1) n ≡ 1
product_ones zero = refl
product_ones (suc n) = ap (λ x. x * 1) (product_ones n)

-- without the factor of this sort
abbrev pub others : ℕ → (ℕ → ℕ) → ℕ → ℕ
others s f z = cond (eqb s z) 1 (f z)

pub product_split : (f : ℕ → ℕ) (n s : ℕ) → s < n → product_below f n ≡ f s * product_below (others s f) n
product_split f zero s lt = absurd (omega arith)
product_split f (suc n) s lt = elim (cases_eq s n) [
  | inl same ↦
      let front : product_below f n ≡ product_below (others s f) n = product_same f (others s f) n (λ z below. sym (ap (λ b. cond b 1 (f z)) (ne_eqb s z (λ e. omega (arith, e, same))))) in
      ap (λ x. x * f n) front ∙ mul_comm (product_below (others s f) n) (f n) ∙ ap (λ k. f k * product_below (others s f) n) (sym same)
      ∙ ap (λ x. f s * x) (let e : product_below (others s f) n ≡ product_below (others s f) n * 1 = omega arith in e ∙ ap (λ b. product_below (others s f) n * cond b 1 (f n)) (sym (eq-eqb s n same)))
  | inr other ↦
      ap (λ x. x * f n) (product_split f n s (omega (arith, other))) ∙ mul_assoc (f s) (product_below (others s f) n) (f n)
      ∙ ap (λ b. f s * (product_below (others s f) n * cond b 1 (f n))) (sym (ne_eqb s n other))
]

pub product_times : (f g : ℕ → ℕ) (n : ℕ) → product_below f n * product_below g n ≡ product_below (λ z. f z * g z) n
product_times f g zero = refl
product_times f g (suc n) =
    let a = product_below f n in
    let b = product_below g n in
    mul_assoc a (f n) (b * g n) ∙ ap (λ x. a * x) (mul_left_comm (f n) b (g n)) ∙ sym (mul_assoc a b (f n * g n)) ∙ ap (λ x. x * (f n * g n)) (product_times f g n)
