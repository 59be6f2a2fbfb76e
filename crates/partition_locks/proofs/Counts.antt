-- How many points of a span lie in the runs.
use Rattle.std.proofs.Common.{filter, ◌≡◌, inl, inr, ℕ, zero, suc, ◌+◌, ◌-◌, ◌<◌, ◌≤◌, Bool, true, false, not, cond, List, [], ◌∷◌, length, refl, sym, ap, subst, ◌∙◌, arith}
use Rattle.std.specs.Prelude.{min, max, ◌||◌, sum_by, nat_le as leb, Option, Some, is_some}
use Rattle.std.specs.List.{find}
use Rattle.std.proofs.lemmas.List.Sums.{sum_by-cons}
use Rattle.std.proofs.lemmas.Bool.{cases_Bool, cases_eq, cond_both, cond-true, cond-false, and_cases, leb-false, false≢true}
use Rattle.ind_base.specs.declared.span.Span.{Span}
use Rattle.spec_model.specs.Truths.{span_has}
use Rattle.run_model.specs.Points.{points_of}
use Rattle.partition_locks.specs.Held.{AreApart, lies_in, holds, HeldIsWhole}
use Rattle.partition_locks.proofs.Rows.{row, row_long, points_between}
use Rattle.partition_locks.proofs.Apart.{has_parts, none_below}

-- how many numbers from a on, so many, a run has
abbrev overlap : ℕ → ℕ → Span → ℕ
overlap a n run = min (run.hi + 1) (a + n) - max run.lo a

count_run : (run : Span) (a n : ℕ) → length (filter (span_has run) (row a n)) ≡ overlap a n run
count_run run a zero = omega arith
count_run run a (suc n) =
    let rest = count_run run (a + 1) n in
    let behind : List ℕ = filter (span_has run) (row (a + 1) n) in
    cond_both (span_has run a) (a ∷ behind) behind (λ (xs : List ℕ). length xs ≡ overlap a (suc n) run)
    (λ yes. let p = has_parts run a yes in omega (arith, rest, p))
    (λ no. elim (and_cases (leb run.lo a) (leb a run.hi) no) [
      | inl low ↦ omega (arith, rest, leb-false run.lo a low)
      | inr high ↦ omega (arith, rest, leb-false a run.hi high)
    ])

-- of two tests that no number passes both
count_both : (P Q : ℕ → Bool) (xs : List ℕ) → ((x : ℕ) → P x ≡ true → Q x ≡ false) → length (filter (λ x. P x || Q x) xs) ≡ length (filter P xs) + length (filter Q xs)
count_both P Q [] apart = refl
count_both P Q (x ∷ xs) apart = step (P x) (Q x) (filter (λ y. P y || Q y) xs) (filter P xs) (filter Q xs) (apart x) (count_both P Q xs apart)
  where
    step : (p q : Bool) (both ps qs : List ℕ) → (p ≡ true → q ≡ false) → length both ≡ length ps + length qs
        → length (cond (p || q) (x ∷ both) both) ≡ length (cond p (x ∷ ps) ps) + length (cond q (x ∷ qs) qs)
    step true true both ps qs h is = absurd (false≢true (sym (h refl)))
    step true false both ps qs h is = omega (arith, is)
    step false true both ps qs h is = omega (arith, is)
    step false false both ps qs h is = is

no_count : (xs : List ℕ) → length (filter (lies_in []) xs) ≡ 0
no_count [] = refl
no_count (x ∷ xs) = no_count xs

count_row : (from a n : ℕ) (runs : List Span) → AreApart from runs → length (filter (lies_in runs) (row a n)) ≡ sum_by (overlap a n) runs
count_row from a n [] h = no_count (row a n)
count_row from a n (run ∷ runs) h =
    let apart : (x : ℕ) → span_has run x ≡ true → lies_in runs x ≡ false = λ x is. none_below (run.hi + 2) runs x h.2 (omega (arith, (has_parts run x is).1)) in
    let both = count_both (span_has run) (lies_in runs) (row a n) apart in
    let rest = count_row (run.hi + 2) a n runs h.2 in
    let one = count_run run a n in
    omega (arith, both, rest, one, sum_by-cons (overlap a n) run runs)

-- how many points two spans share
abbrev pub shared : Span → Span → ℕ
shared span run = (min run.hi span.hi + 1) - max run.lo span.lo

shared_is : (span run : Span) (n : ℕ) → n ≡ (span.hi + 1) - span.lo → overlap span.lo n run ≡ shared span run
shared_is span run n is = omega (arith, is)

-- sums of equal parts
sum_same : (f g : Span → ℕ) → ((x : Span) → f x ≡ g x) → (xs : List Span) → sum_by f xs ≡ sum_by g xs
sum_same f g same [] = refl
sum_same f g same (x ∷ xs) = omega (arith, same x, sum_same f g same xs, sum_by-cons f x xs, sum_by-cons g x xs)

pub size_is : (span : Span) → length (points_of span) ≡ (span.hi + 1) - span.lo
size_is span = ap length (points_between span) ∙ row_long span.lo ((span.hi + 1) - span.lo)

pub count_is : (runs : List Span) (span : Span) → AreApart 0 runs → length (filter (lies_in runs) (points_of span)) ≡ sum_by (shared span) runs
count_is runs span h =
    let n : ℕ = (span.hi + 1) - span.lo in
    ap (λ (xs : List ℕ). length (filter (lies_in runs) xs)) (points_between span) ∙ (count_row 0 span.lo n runs h ∙ sum_same (overlap span.lo n) (shared span) (λ run. shared_is span run n refl) runs)

pub count_small : (P : ℕ → Bool) (xs : List ℕ) → length (filter P xs) ≤ length xs
count_small P [] = omega arith
count_small P (x ∷ xs) =
    let rest = count_small P xs in
    cond_both (P x) (x ∷ filter P xs) (filter P xs) (λ (ys : List ℕ). length ys ≤ length (x ∷ xs)) (λ yes. omega (arith, rest)) (λ no. omega (arith, rest))

-- where so many pass as there are, each does
row_full : (P : ℕ → Bool) (a n y : ℕ) → n ≤ length (filter P (row a n)) → a ≤ y → y < a + n → P y ≡ true
row_full P a zero y full low high = absurd (omega (arith, low, high))
row_full P a (suc n) y full low high =
    let few = count_small P (row (a + 1) n) in
    let long = row_long (a + 1) n in
    elim (cases_Bool (P a)) [
      | inl here ↦ elim (cases_eq a y) [
        | inl it ↦ subst (λ (x : ℕ). P x ≡ true) it here
        | inr other ↦
            let less : n ≤ length (filter P (row (a + 1) n)) = omega (arith, full, ap length (cond-true (P a) (a ∷ filter P (row (a + 1) n)) (filter P (row (a + 1) n)) here)) in
            row_full P (a + 1) n y less (omega (arith, low, other)) (omega (arith, high))
      ]
      | inr fails ↦ absurd (omega (arith, full, few, long, ap length (cond-false (P a) (a ∷ filter P (row (a + 1) n)) (filter P (row (a + 1) n)) fails)))
    ]

pub all_held : (P : ℕ → Bool) (span : Span) → length (points_of span) ≤ length (filter P (points_of span)) → (y : ℕ) → span_has span y ≡ true → P y ≡ true
all_held P span full y h =
    let n : ℕ = (span.hi + 1) - span.lo in
    let p = has_parts span y h in
    let same = ap (λ (xs : List ℕ). length (filter P xs)) (points_between span) in
    row_full P span.lo n y (omega (arith, full, same, size_is span)) p.0 (omega (arith, p.0, p.1))

kept_whole : (P : ℕ → Bool) (xs : List ℕ) → not (is_some (find (λ x. not (P x)) xs)) ≡ true → length (filter P xs) ≡ length xs
kept_whole P [] none = refl
kept_whole P (x ∷ xs) none = step (P x) (find (λ y. not (P y)) xs) (filter P xs) none (λ rest. kept_whole P xs rest)
  where
    step : (b : Bool) (o : Option ℕ) (ys : List ℕ) → not (is_some (cond (not b) (Some x) o)) ≡ true → (not (is_some o) ≡ true → length ys ≡ length xs) → length (cond b (x ∷ ys) ys) ≡ length (x ∷ xs)
    step true o ys none rest = ap suc (rest none)
    step false o ys none rest = absurd cc

pub held_is_whole : HeldIsWhole
held_is_whole h span all = kept_whole (holds h) (points_of span) all
