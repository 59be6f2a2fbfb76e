-- Runs below a point.
use Rattle.std.proofs.Common.{filter, ◌≡◌, inl, inr, ℕ, zero, suc, ◌+◌, ◌-◌, ◌<◌, ◌≤◌, Bool, true, false, cond, List, [], ◌∷◌, refl, sym, ap, ◌∙◌, arith}
use Rattle.std.specs.Prelude.{min, nat_lt, ◌||◌}
use Rattle.std.proofs.lemmas.Bool.{cond_both, or_cases}
use Rattle.ind_base.specs.declared.span.Span.{Span}
use Rattle.spec_model.specs.Truths.{span_has}
use Rattle.spec_model.specs.Universe.{below}
use Rattle.run_model.specs.Points.{runs_of}
use Rattle.partition_locks.specs.Held.{AreApart, clipped, lies_in}
use Rattle.partition_locks.proofs.Apart.{apart_from, has, has_parts, lacks_below}
use Rattle.partition_locks.proofs.Queries.{maximal_runs}
use Rattle.partition_locks.proofs.Rows.{row, below_between}
use Rattle.partition_locks.proofs.Rooms.{lt_is}
use Rattle.partition_locks.proofs.Tests.{both}

-- a point that isn't below another
not_below : (a b : ℕ) → nat_lt b a ≡ false → a ≤ b
not_below a b h = search (arith)

abbrev cut : ℕ → Span → Span
cut all run = record { lo = run.lo; hi = min run.hi (all - 1) }

-- tests that agree below a point
same_row : (P Q : ℕ → Bool) (all a n : ℕ) → a + n ≤ all → ((y : ℕ) → y < all → P y ≡ Q y) → filter P (row a n) ≡ filter Q (row a n)
same_row P Q all a zero le same = refl
same_row P Q all a (suc n) le same =
    ap (λ (b : Bool). cond b (a ∷ filter P (row (a + 1) n)) (filter P (row (a + 1) n))) (same a (omega (arith, le)))
    ∙ ap (λ (xs : List ℕ). cond (Q a) (a ∷ xs) xs) (same_row P Q all (a + 1) n (omega (arith, le)) same)

pub same_below : (P Q : ℕ → Bool) (all : ℕ) → ((y : ℕ) → y < all → P y ≡ Q y) → filter P (below all) ≡ filter Q (below all)
same_below P Q all same =
    ap (filter P) (below_between all) ∙ same_row P Q all 0 (all - 0) (omega arith) same ∙ ap (filter Q) (sym (below_between all))

-- they are apart as well
clipped_apart : (all from : ℕ) (runs : List Span) → AreApart from runs → AreApart from (clipped all runs)
clipped_apart all from [] h = tt
clipped_apart all from (run ∷ runs) h =
    let rest = clipped_apart all (run.hi + 2) runs h.2 in
    cond_both (nat_lt run.lo all) (cut all run ∷ clipped all runs) (clipped all runs) (AreApart from)
    (λ yes. let lt = lt_is run.lo all yes in (h.0, omega (arith, h.1, lt), apart_from (min run.hi (all - 1) + 2) (run.hi + 2) (clipped all runs) (omega arith) rest))
    (λ no. apart_from from (run.hi + 2) (clipped all runs) (omega (arith, h.0, h.1)) rest)

-- and below the point
clipped_low : (all : ℕ) (runs : List Span) (x : ℕ) → lies_in (clipped all runs) x ≡ true → x < all
clipped_low all [] x lies = absurd cc
clipped_low all (run ∷ runs) x lies =
    cond_both (nat_lt run.lo all) (cut all run ∷ clipped all runs) (clipped all runs) (λ (rs : List Span). lies_in rs x ≡ true → x < all)
    (λ yes. λ here.
    let lt = lt_is run.lo all yes in
    elim (or_cases (span_has (cut all run) x) (lies_in (clipped all runs) x) here) [
      | inl one ↦ let p = has_parts (cut all run) x one in omega (arith, p.1, lt)
      | inr more ↦ clipped_low all runs x more
    ])
    (λ no. λ here. clipped_low all runs x here)
    lies

cut_has : (all : ℕ) (run : Span) (x : ℕ) → x < all → span_has (cut all run) x ≡ span_has run x
cut_has all run x lt =
    both (span_has (cut all run) x) (span_has run x)
    (λ h. let p = has_parts (cut all run) x h in has run x p.0 (omega (arith, p.1)))
    (λ h. let p = has_parts run x h in has (cut all run) x p.0 (omega (arith, p.1, lt)))

-- below it they have the same
pub clipped_has : (all : ℕ) (runs : List Span) (x : ℕ) → x < all → lies_in (clipped all runs) x ≡ lies_in runs x
clipped_has all [] x lt = refl
clipped_has all (run ∷ runs) x lt =
    let rest = clipped_has all runs x lt in
    cond_both (nat_lt run.lo all) (cut all run ∷ clipped all runs) (clipped all runs) (λ (rs : List Span). lies_in rs x ≡ lies_in (run ∷ runs) x)
    (λ yes. ap (λ b. b || lies_in (clipped all runs) x) (cut_has all run x lt) ∙ ap (λ b. span_has run x || b) rest)
    (λ no.
    let past = not_below all run.lo no in
    rest ∙ ap (λ b. b || lies_in runs x) (sym (lacks_below run x (omega (arith, past, lt)))))

-- so they are the maximal runs below it
pub clipped_runs : (all : ℕ) (runs : List Span) → AreApart 0 runs → clipped all runs ≡ runs_of (filter (lies_in runs) (below all))
clipped_runs all runs h =
    maximal_runs all (clipped all runs) (clipped_apart all 0 runs h) (clipped_low all runs)
    ∙ ap runs_of (same_below (lies_in (clipped all runs)) (lies_in runs) all (λ x lt. clipped_has all runs x lt))
