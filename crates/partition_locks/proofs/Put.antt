-- Points that are added to runs that have none of them.
use Rattle.std.proofs.Common.{◌≡◌, inl, inr, ℕ, ◌+◌, ◌-◌, ◌≤◌, Bool, true, false, List, [], ◌∷◌, ◌++◌, take, drop, sym, ap, subst, ◌∙◌, arith}
use Rattle.std.specs.Prelude.{◌||◌, ◌==◌, max}
use Rattle.std.proofs.lemmas.List.{take-append-drop}
use Rattle.std.proofs.lemmas.List.Folds.{list_any-append}
use Rattle.std.proofs.lemmas.Bool.{cond_both, cases_lt, or_cases, or_left, or_right, or_parts, eqb-true, eqb-false, false≢true}
use Rattle.ind_base.specs.declared.span.Span.{Span}
use Rattle.spec_model.specs.Truths.{span_has}
use Rattle.partition_locks.specs.Held.{AreApart, lies_in}
use Rattle.partition_locks.specs.Edits.{IsPlace, ReachesTo, in_front, put_in}
use Rattle.partition_locks.proofs.Apart.{has, has_parts, from_place, drop_apart}
use Rattle.partition_locks.proofs.Cut.{apart_splice}
use Rattle.partition_locks.proofs.Tests.{both, or_none, or_swap, or_join, or_middle}

-- none of the span's points lies in the runs
abbrev IsFreeOf : Span → List Span → Type 0
IsFreeOf span runs = (x : ℕ) → span_has span x ≡ true → lies_in runs x ≡ false

-- ---- apart

-- runs that end in the span or behind it, and have none of it, are behind it
free_above : (e : ℕ) (runs : List Span) (span : Span) → AreApart e runs → ReachesTo span.lo runs → span.lo ≤ span.hi → IsFreeOf span runs → AreApart (span.hi + 1) runs
free_above e [] span h reach some free = tt
free_above e (run ∷ runs) span h reach some free = (
  elim (cases_lt span.hi run.lo) [
    | inl lt ↦ omega (arith, lt)
    | inr le ↦
        let x : ℕ = max run.lo span.lo in
        absurd (false≢true (sym (free x (has span x (omega arith) (omega (arith, le, some)))) ∙ or_left (span_has run x) (lies_in runs x) (has run x (omega arith) (omega (arith, h.1, reach)))))
  ],
  h.1,
  h.2,
)

front_apart : (e : ℕ) (span : Span) (runs : List Span) → e ≤ span.lo → span.lo ≤ span.hi → AreApart (span.hi + 1) runs → AreApart e (in_front span runs)
front_apart e span [] low some h = (low, some, tt)
front_apart e span (run ∷ runs) low some h =
    cond_both (run.lo == span.hi + 1) (record { lo = span.lo; hi = run.hi } ∷ runs) (span ∷ (run ∷ runs)) (AreApart e)
    (λ near. (low, omega (arith, some, h.0, h.1), h.2))
    (λ far. let other = eqb-false run.lo (span.hi + 1) far in (low, some, (omega (arith, other, h.0), h.1, h.2)))

reaches_behind : (from x : ℕ) (runs : List Span) → x ≤ from → AreApart from runs → ReachesTo x runs
reaches_behind from x [] le h = tt
reaches_behind from x (run ∷ runs) le h = omega (arith, le, h.0, h.1)

put_apart : (e : ℕ) (span : Span) (runs : List Span) → e ≤ span.lo → span.lo ≤ span.hi → AreApart e runs → ReachesTo (span.lo - 1) runs → IsFreeOf span runs → AreApart e (put_in span runs)
put_apart e span [] low some h reach free = (low, some, tt)
put_apart e span (run ∷ runs) low some h reach free =
    let wide : Span = record { lo = run.lo; hi = span.hi } in
    cond_both (run.hi + 1 == span.lo) (in_front wide runs) (in_front span (run ∷ runs)) (AreApart e)
    (λ near.
    let it = eqb-true (run.hi + 1) span.lo near in
    let behind = free_above (run.hi + 2) runs span h.2 (reaches_behind (run.hi + 2) span.lo runs (omega (arith, it)) h.2) some (λ x s. (or_parts (span_has run x) (lies_in runs x) (free x s)).1) in
    front_apart e wide runs h.0 (omega (arith, it, h.1, some)) behind)
    (λ far.
    let other = eqb-false (run.hi + 1) span.lo far in
    let reaches : span.lo ≤ run.hi = omega (arith, other, reach) in
    front_apart e span (run ∷ runs) low some (free_above e (run ∷ runs) span h reaches some free))

-- ---- what they have

join_has : (a b : Span) (x : ℕ) → a.lo ≤ a.hi → b.lo ≤ b.hi → b.lo ≡ a.hi + 1 → span_has (record { lo = a.lo; hi = b.hi }) x ≡ (span_has a x || span_has b x)
join_has a b x some_a some_b next =
    let whole : Span = record { lo = a.lo; hi = b.hi } in
    both (span_has whole x) (span_has a x || span_has b x)
    (λ h.
    let p = has_parts whole x h in
    elim (cases_lt a.hi x) [
      | inl lt ↦ or_right (span_has a x) (span_has b x) (has b x (omega (arith, lt, next)) p.1)
      | inr le ↦ or_left (span_has a x) (span_has b x) (has a x p.0 le)
    ])
    (λ h. elim (or_cases (span_has a x) (span_has b x) h) [
      | inl y ↦ let p = has_parts a x y in has whole x p.0 (omega (arith, p.1, next, some_b))
      | inr y ↦ let p = has_parts b x y in has whole x (omega (arith, p.0, next, some_a)) p.1
    ])

front_has : (e : ℕ) (span : Span) (runs : List Span) (x : ℕ) → span.lo ≤ span.hi → AreApart e runs → lies_in (in_front span runs) x ≡ (lies_in runs x || span_has span x)
front_has e span [] x some h = or_none (span_has span x)
front_has e span (run ∷ runs) x some h =
    let S : Bool = span_has span x in
    let R : Bool = span_has run x in
    let M : Bool = lies_in runs x in
    cond_both (run.lo == span.hi + 1) (record { lo = span.lo; hi = run.hi } ∷ runs) (span ∷ (run ∷ runs)) (λ (xs : List Span). lies_in xs x ≡ ((R || M) || S))
    (λ near. ap (λ (b : Bool). b || M) (join_has span run x some h.1 (eqb-true run.lo (span.hi + 1) near)) ∙ or_middle R S M)
    (λ far. or_swap S (R || M))

put_has : (e : ℕ) (span : Span) (runs : List Span) (x : ℕ) → span.lo ≤ span.hi → AreApart e runs → lies_in (put_in span runs) x ≡ (lies_in runs x || span_has span x)
put_has e span [] x some h = or_none (span_has span x)
put_has e span (run ∷ runs) x some h =
    let S : Bool = span_has span x in
    let R : Bool = span_has run x in
    let M : Bool = lies_in runs x in
    let wide : Span = record { lo = run.lo; hi = span.hi } in
    cond_both (run.hi + 1 == span.lo) (in_front wide runs) (in_front span (run ∷ runs)) (λ (xs : List Span). lies_in xs x ≡ ((R || M) || S))
    (λ near.
    let it = eqb-true (run.hi + 1) span.lo near in
    front_has (run.hi + 2) wide runs x (omega (arith, it, h.1, some)) h.2
    ∙ (ap (λ (b : Bool). M || b) (join_has run span x h.1 some (sym it)) ∙ (or_swap M (R || S) ∙ (ap (λ (b : Bool). b || M) (or_swap R S) ∙ or_middle R S M))))
    (λ far. front_has e span (run ∷ runs) x some h)

-- ---- the whole

pub added_apart : (runs : List Span) (span : Span) (k : ℕ) → AreApart 0 runs → IsPlace runs (span.lo - 1) k → span.lo ≤ span.hi → IsFreeOf span runs → AreApart 0 (take k runs ++ put_in span (drop k runs))
added_apart runs span k h place some free =
    let whole : take k runs ++ drop k runs ≡ runs = take-append-drop k runs in
    let free_there : IsFreeOf span (drop k runs) = λ x s. sym (from_place k (span.lo - 1) runs x place.before (omega (arith, (has_parts span x s).0))) ∙ free x s in
    apart_splice 0 (span.lo - 1) span.lo (take k runs) (drop k runs) (put_in span (drop k runs)) (λ e less. omega (arith, less)) place.before (omega arith) (subst (AreApart 0) (sym whole) h)
    (λ e le apart. put_apart e span (drop k runs) le some apart place.reaches free_there)

pub added_has : (runs : List Span) (span : Span) (k : ℕ) → AreApart 0 runs → span.lo ≤ span.hi → (x : ℕ) → lies_in (take k runs ++ put_in span (drop k runs)) x ≡ (lies_in runs x || span_has span x)
added_has runs span k h some x =
    let in_it : Span → Bool = λ s. span_has s x in
    let front : List Span = take k runs in
    let rest : List Span = drop k runs in
    let old : lies_in runs x ≡ (lies_in front x || lies_in rest x) = ap (λ (xs : List Span). lies_in xs x) (sym (take-append-drop k runs)) ∙ list_any-append in_it front rest in
    list_any-append in_it front (put_in span rest)
    ∙ (ap (λ (b : Bool). lies_in front x || b) (put_has 0 span rest x some (drop_apart k 0 runs h))
    ∙ (or_join (lies_in front x) (lies_in rest x) (span_has span x)
    ∙ ap (λ (b : Bool). b || span_has span x) (sym old)))
