-- The run of points of a replica at the start.
use Rattle.std.proofs.Common.{◌≡◌, ℕ, zero, suc, ◌+◌, ◌-◌, ◌*◌, ◌/◌, ◌%◌, ◌<◌, ◌≤◌, Bool, true, false, inl, inr, refl, ap, ◌∙◌, arith}
use Rattle.std.specs.Prelude.{◌&&◌, nat_le, nat_lt, min, get_or, List, [], ◌∷◌}
use Rattle.std.specs.List.{AllByRecursion}
use Rattle.std.proofs.lemmas.Bool.{cases_lt, cond-true, cond-false, le-ltb, lt-ltb}
use Rattle.std.proofs.lemmas.List.Sums.{sum_by_push}
use Rattle.spec_model.specs.declared.plan.Setup.{Setup}
use Rattle.spec_model.specs.declared.spec.Sort.{Sort}
use Rattle.spec_model.specs.Fits.{IsWellFormed, SortFits}
use Rattle.spec_model.specs.Truths.{op_at, sort_of, no_sort}
use Rattle.spec_model.specs.Separated.{interval_place}
use Rattle.spec_model.specs.Universe.{below}
use Rattle.run_model.specs.Points.{no_kind, points_all, run_start}
use Rattle.run_model.specs.Rights.{even_share}
use Rattle.run_model.proofs.Counting.{shares_all}

-- one more time
one_more : (k q : ℕ) → (k + 1) * q ≡ k * q + q
one_more k q = search (arith)

-- the run begins behind those of the replicas before
pub start_is : (all n k : ℕ) → run_start all n k ≡ k * (all / n) + min k (all % n)
start_is all n zero = omega arith
start_is all n (suc k) =
    let q : ℕ = all / n in
    let m : ℕ = all % n in
    let push : run_start all n (suc k) ≡ run_start all n k + even_share all n k = sum_by_push (even_share all n) (below k) k in
    let rest = start_is all n k in
    let more : (k + 1) * q ≡ k * q + q = one_more k q in
    elim (cases_lt k m) [
      | inl lt ↦ let one = cond-true {A = ℕ} (nat_lt k m) 1 0 (lt-ltb k m lt) in omega (arith, push, rest, more, lt, one)
      | inr le ↦ let none = cond-false {A = ℕ} (nat_lt k m) 1 0 (le-ltb k m le) in omega (arith, push, rest, more, le, none)
    ]

-- later runs begin later
start_grows : (all n k d : ℕ) → run_start all n k ≤ run_start all n (k + d)
start_grows all n k zero = let same : k ≡ k + 0 = omega arith in let e = ap (run_start all n) same in omega (arith, e)
start_grows all n k (suc d) =
    let push : run_start all n (suc (k + d)) ≡ run_start all n (k + d) + even_share all n (k + d) = sum_by_push (even_share all n) (below (k + d)) (k + d) in
    let same : suc (k + d) ≡ k + suc d = omega arith in
    let e = ap (run_start all n) same in
    let rest = start_grows all n k d in
    omega (arith, push, rest, e)

-- and all of them end with the last point
pub run_within : (all n k : ℕ) → k < n → run_start all n k + even_share all n k ≤ all
run_within all n k lt =
    let push : run_start all n (suc k) ≡ run_start all n k + even_share all n k = sum_by_push (even_share all n) (below k) k in
    let grows : run_start all n (suc k) ≤ run_start all n (suc k + (n - suc k)) = start_grows all n (suc k) (n - suc k) in
    let end : suc k + (n - suc k) ≡ n = omega (arith, lt) in
    let last = ap (run_start all n) end in
    let whole : run_start all n n ≡ all = shares_all all n (omega (arith, lt)) in
    omega (arith, push, grows, last, whole)

-- a run by its first and last point
pub run_has : (lo n hi x : ℕ) → hi + 1 ≡ lo + n → (nat_le lo x && nat_le x hi) ≡ (nat_le lo x && nat_lt x (lo + n))
run_has lo n hi x is = ap (λ b. nat_le lo x && b) (same hi (lo + n) is)
  where
    same : (h e : ℕ) → h + 1 ≡ e → nat_le x h ≡ nat_lt x e
    same h e s = search (arith, s)

-- no run has no point
pub run_empty : (lo x : ℕ) → (nat_le lo x && nat_lt x (lo + 0)) ≡ false
run_empty lo x = elim (cases_lt x lo) [
  | inl lt ↦ ap (λ b. b && nat_lt x (lo + 0)) (let no : nat_le lo x ≡ false = search (arith, lt) in no)
  | inr le ↦ ap (λ b. nat_le lo x && b) (le-ltb x (lo + 0) (omega (arith, le))) ∙ none (nat_le lo x)
]
  where
    none : (b : Bool) → (b && false) ≡ false
    none true = refl
    none false = refl

-- ---- few points

sort_few : (sorts : List Sort) (i : ℕ) → AllByRecursion SortFits sorts → (get_or sorts i no_sort).size ≤ 1024
sort_few [] i fits = omega arith
sort_few (s ∷ sorts) zero fits = fits.0.few
sort_few (s ∷ sorts) (suc i) fits = sort_few sorts i fits.1

pub points_few : (setup : Setup) (part : ℕ) → IsWellFormed setup.spec → points_all setup part ≤ 1024
points_few setup part well =
    let params = (op_at setup.spec (get_or setup.plan.parts part no_kind).a).params in
    sort_few setup.spec.sorts (sort_of params (interval_place params)) well.sorts
