-- A span in which there is no run has no point that is held.
use Rattle.std.proofs.Common.{filter, ◌≡◌, inl, inr, ℕ, zero, suc, ◌+◌, ◌-◌, ◌<◌, ◌≤◌, Bool, true, false, not, List, [], ◌∷◌, refl, sym, ap, subst, ◌∙◌, arith}
use Rattle.std.specs.Prelude.{is_some, slice_get, ◌==◌}
use Rattle.std.proofs.lemmas.Bool.{cases_Bool, cases_eq, cond_both, cond-true, cond-false}
use Rattle.ind_base.specs.declared.span.Span.{Span}
use Rattle.run_model.specs.Points.{points_of, run_of, runs_of, with_point}
use Rattle.partition_locks.specs.Held.{HeldPoints, IsFree, holds}
use Rattle.partition_locks.proofs.Apart.{has_parts}
use Rattle.partition_locks.proofs.Rows.{row, points_between}

-- a point makes a run
some_run : (x : ℕ) (runs : List Span) → not (is_some (slice_get (with_point x runs) 0)) ≡ true → ⊥
some_run x [] h = absurd cc
some_run x (run ∷ runs) h =
    cond_both (run.lo == x + 1) (record { lo = x; hi = run.hi } ∷ runs) (record { lo = x; hi = x } ∷ (run ∷ runs)) (λ (rs : List Span). not (is_some (slice_get rs 0)) ≡ true → ⊥)
    (λ yes. λ no. absurd cc)
    (λ far. λ no. absurd cc)
    h

no_points : (xs : List ℕ) → not (is_some (slice_get (runs_of xs) 0)) ≡ true → xs ≡ []
no_points [] h = refl
no_points (x ∷ xs) h = absurd (some_run x (runs_of xs) h)

-- where none passes each fails
row_none : (P : ℕ → Bool) (a n y : ℕ) → filter P (row a n) ≡ [] → a ≤ y → y < a + n → P y ≡ false
row_none P a zero y none low high = absurd (omega (arith, low, high))
row_none P a (suc n) y none low high =
    elim (cases_Bool (P a)) [
      | inl here ↦ absurd (let no : a ∷ filter P (row (a + 1) n) ≡ [] = sym (cond-true (P a) (a ∷ filter P (row (a + 1) n)) (filter P (row (a + 1) n)) here) ∙ none in cc)
      | inr fails ↦ elim (cases_eq a y) [
        | inl it ↦ subst (λ (x : ℕ). P x ≡ false) it fails
        | inr other ↦ row_none P (a + 1) n y (sym (cond-false (P a) (a ∷ filter P (row (a + 1) n)) (filter P (row (a + 1) n)) fails) ∙ none) (omega (arith, low, other)) (omega (arith, high))
      ]
    ]

pub none_held : (h : HeldPoints) (span : Span) → not (is_some (run_of (holds h) span)) ≡ true → IsFree h span
none_held h span none x has =
    let p = has_parts span x has in
    let empty = no_points (filter (holds h) (points_of span)) none in
    row_none (holds h) span.lo ((span.hi + 1) - span.lo) x (ap (filter (holds h)) (sym (points_between span)) ∙ empty) p.0 (omega (arith, p.0, p.1))
