-- Points that are taken out of the run that has them all.
use Rattle.std.proofs.Common.{◌≡◌, inl, inr, ℕ, ◌+◌, ◌-◌, ◌<◌, ◌≤◌, Bool, true, false, not, cond, List, [], ◌∷◌, ◌++◌, take, drop, length, get_or, refl, sym, ap, subst, ◌∙◌, arith}
use Rattle.std.specs.Prelude.{◌||◌, ◌&&◌, nat_lt, nat_le as leb}
use Rattle.std.specs.List.{AllByRecursion}
use Rattle.std.proofs.lemmas.List.{take-append-drop}
use Rattle.std.proofs.lemmas.List.Folds.{list_any-append}
use Rattle.std.proofs.lemmas.Bool.{cond_both, cases_lt, and_from, and_parts, and_cases, or_cases, or_left, or_right, ltb-true, lt-ltb, leb-false, not-true, false≢true}
use Rattle.ind_base.specs.declared.span.Span.{Span}
use Rattle.spec_model.specs.Truths.{span_has}
use Rattle.partition_locks.specs.Held.{AreApart, lies_in}
use Rattle.partition_locks.specs.Edits.{IsPlace, remains}
use Rattle.partition_locks.proofs.Apart.{Around, has, has_parts, lacks_below, lacks_above, apart_from, none_below, past_all, drop_run, drop_apart}
use Rattle.partition_locks.proofs.Tests.{both, or_none, cut}

-- what comes in place of the last runs stays apart if it does behind each that ends before b
pub apart_splice : (from x b : ℕ) (a m n : List Span) → ((h : ℕ) → h < x → h + 2 ≤ b) → AllByRecursion (λ (run : Span). run.hi < x) a → from ≤ b → AreApart from (a ++ m)
    → ((e : ℕ) → e ≤ b → AreApart e m → AreApart e n) → AreApart from (a ++ n)
apart_splice from x b [] m n far all le h f = f from le h
apart_splice from x b (r ∷ a) m n far all le h f = (h.0, h.1, apart_splice (r.hi + 2) x b a m n far all.1 (far r.hi all.0) h.2 f)

-- runs that end before a point don't have it
pub ended : (x : ℕ) (runs : List Span) (y : ℕ) → AllByRecursion (λ (run : Span). run.hi < x) runs → x ≤ y → lies_in runs y ≡ false
ended x [] y all le = refl
ended x (run ∷ runs) y all le = ap (λ (b : Bool). b || lies_in runs y) (lacks_above run y (omega (arith, all.0, le))) ∙ ended x runs y all.1 le

-- ---- what remains of the run

high_apart : (e : ℕ) (run span : Span) (more : List Span) → e ≤ span.hi + 1 → AreApart (run.hi + 2) more → span.hi ≤ run.hi
    → AreApart e (cond (nat_lt span.hi run.hi) (record { lo = span.hi + 1; hi = run.hi } ∷ []) [] ++ more)
high_apart e run span more le h within =
    cond_both (nat_lt span.hi run.hi) (record { lo = span.hi + 1; hi = run.hi } ∷ []) [] (λ (xs : List Span). AreApart e (xs ++ more))
    (λ left. let lt = ltb-true span.hi run.hi left in (le, omega (arith, lt), h))
    (λ gone. apart_from e (run.hi + 2) more (omega (arith, le, within)) h)

remains_apart : (e : ℕ) (run span : Span) (more : List Span) → span.lo ≤ span.hi → run.lo ≤ span.lo → span.hi ≤ run.hi → AreApart e (run ∷ more) → AreApart e (remains run span ++ more)
remains_apart e run span more some low high h =
    let last : List Span = cond (nat_lt span.hi run.hi) (record { lo = span.hi + 1; hi = run.hi } ∷ []) [] in
    cond_both (nat_lt run.lo span.lo) (record { lo = run.lo; hi = span.lo - 1 } ∷ []) [] (λ (xs : List Span). AreApart e ((xs ++ last) ++ more))
    (λ left. let lt = ltb-true run.lo span.lo left in (h.0, omega (arith, lt), high_apart ((span.lo - 1) + 2) run span more (omega (arith, lt, some)) h.2 high))
    (λ gone. high_apart e run span more (omega (arith, h.0, low, some)) h.2 high)

one_in : (b : Bool) (s : Span) (x : ℕ) → lies_in (cond b (s ∷ []) []) x ≡ (b && span_has s x)
one_in true s x = or_none (span_has s x)
one_in false s x = refl

remains_have : (run span : Span) (x : ℕ) → span.lo ≤ span.hi → run.lo ≤ span.lo → span.hi ≤ run.hi → lies_in (remains run span) x ≡ (span_has run x && not (span_has span x))
remains_have run span x some low high =
    let before : Span = record { lo = run.lo; hi = span.lo - 1 } in
    let after : Span = record { lo = span.hi + 1; hi = run.hi } in
    let is_before : Bool = nat_lt run.lo span.lo in
    let is_after : Bool = nat_lt span.hi run.hi in
    let left : Bool = is_before && span_has before x in
    let right : Bool = is_after && span_has after x in
    let parts : lies_in (remains run span) x ≡ (left || right) =
    list_any-append (λ (s : Span). span_has s x) (cond is_before (before ∷ []) []) (cond is_after (after ∷ []) [])
    ∙ (ap (λ (b : Bool). b || lies_in (cond is_after (after ∷ []) []) x) (one_in is_before before x)
    ∙ ap (λ (b : Bool). left || b) (one_in is_after after x)) in
    let low_has = λ (y : left ≡ true). (let p = and_parts is_before (span_has before x) y in let r = has_parts before x p.1 in let lt = ltb-true run.lo span.lo p.0 in
    and_from (span_has run x) (not (span_has span x)) (has run x r.0 (omega (arith, r.1, some, high))) (ap not (lacks_below span x (omega (arith, r.1, lt))))) in
    let high_has = λ (y : right ≡ true). (let p = and_parts is_after (span_has after x) y in let r = has_parts after x p.1 in
    and_from (span_has run x) (not (span_has span x)) (has run x (omega (arith, r.0, some, low)) r.1) (ap not (lacks_above span x (omega (arith, r.0))))) in
    parts ∙ both (left || right) (span_has run x && not (span_has span x))
    (λ h. elim (or_cases left right h) [ inl y ↦ low_has y | inr y ↦ high_has y ])
    (λ h.
    let p = and_parts (span_has run x) (not (span_has span x)) h in
    let r = has_parts run x p.0 in
    elim (and_cases (leb span.lo x) (leb x span.hi) (not-true (span_has span x) p.1)) [
      | inl y ↦
          let lt = leb-false span.lo x y in
          or_left left right (and_from is_before (span_has before x) (lt-ltb run.lo span.lo (omega (arith, lt, r.0))) (has before x r.0 (omega (arith, lt))))
      | inr y ↦
          let lt = leb-false x span.hi y in
          or_right left right (and_from is_after (span_has after x) (lt-ltb span.hi run.hi (omega (arith, lt, r.1))) (has after x (omega (arith, lt)) r.1))
    ])

-- ---- the whole

-- the run that has the span's lowest point has all of them
pub run_covers : (P : ℕ → Bool) (span run : Span) → Around P span.lo run → span.lo ≤ span.hi → ((x : ℕ) → span_has span x ≡ true → P x ≡ true) → (run.lo ≤ span.lo) × (span.hi ≤ run.hi)
run_covers P span run a some held = (
  elim (cases_lt span.lo run.lo) [
    | inl lt ↦ absurd (false≢true (sym (a.gap span.lo (omega arith) lt) ∙ held span.lo (has span span.lo (omega arith) some)))
    | inr le ↦ le
  ],
  elim (cases_lt run.hi span.hi) [
    | inl lt ↦ absurd (false≢true (sym a.behind ∙ held (run.hi + 1) (has span (run.hi + 1) (omega (arith, a.reach)) (omega (arith, lt)))))
    | inr le ↦ le
  ],
)

-- the span's lowest point lies in a run
pub place_there : (runs : List Span) (span : Span) (k : ℕ) → IsPlace runs span.lo k → span.lo ≤ span.hi → ((x : ℕ) → span_has span x ≡ true → lies_in runs x ≡ true) → k < length runs
place_there runs span k place some held =
    elim (cases_lt k (length runs)) [
      | inl lt ↦ lt
      | inr le ↦ absurd (false≢true (sym (past_all runs span.lo k place le span.lo (omega arith)) ∙ held span.lo (has span span.lo (omega arith) some)))
    ]

pub cut_apart : (runs : List Span) (span run : Span) (k : ℕ) → AreApart 0 runs → IsPlace runs span.lo k → k < length runs → run ≡ get_or runs k run → span.lo ≤ span.hi → (run.lo ≤ span.lo) × (span.hi ≤ run.hi)
    → AreApart 0 (take k runs ++ (remains run span ++ drop (k + 1) runs))
cut_apart runs span run k h place lt is some covers =
    let more : List Span = drop (k + 1) runs in
    let whole : take k runs ++ (run ∷ more) ≡ runs = ap (λ (xs : List Span). take k runs ++ xs) (sym (drop_run k runs run lt is)) ∙ take-append-drop k runs in
    apart_splice 0 span.lo (span.lo + 1) (take k runs) (run ∷ more) (remains run span ++ more) (λ e less. omega (arith, less)) place.before (omega arith) (subst (AreApart 0) (sym whole) h)
    (λ e le apart. remains_apart e run span more some covers.0 covers.1 apart)

pub cut_has : (runs : List Span) (span run : Span) (k : ℕ) → AreApart 0 runs → IsPlace runs span.lo k → k < length runs → run ≡ get_or runs k run → span.lo ≤ span.hi → (run.lo ≤ span.lo) × (span.hi ≤ run.hi)
    → (x : ℕ) → lies_in (take k runs ++ (remains run span ++ drop (k + 1) runs)) x ≡ (lies_in runs x && not (span_has span x))
cut_has runs span run k h place lt is some covers x =
    let more : List Span = drop (k + 1) runs in
    let front : List Span = take k runs in
    let in_it : Span → Bool = λ s. span_has s x in
    let there : drop k runs ≡ run ∷ more = drop_run k runs run lt is in
    let apart : AreApart 0 (run ∷ more) = subst (AreApart 0) there (drop_apart k 0 runs h) in
    let whole : front ++ (run ∷ more) ≡ runs = ap (λ (xs : List Span). front ++ xs) (sym there) ∙ take-append-drop k runs in
    let old : lies_in runs x ≡ (lies_in front x || (span_has run x || lies_in more x)) = ap (λ (xs : List Span). lies_in xs x) (sym whole) ∙ list_any-append in_it front (run ∷ more) in
    let new : lies_in (front ++ (remains run span ++ more)) x ≡ (lies_in front x || ((span_has run x && not (span_has span x)) || lies_in more x)) =
    list_any-append in_it front (remains run span ++ more)
    ∙ ap (λ (b : Bool). lies_in front x || b) (list_any-append in_it (remains run span) more ∙ ap (λ (b : Bool). b || lies_in more x) (remains_have run span x some covers.0 covers.1)) in
    new
    ∙ (cut (lies_in front x) (span_has run x) (lies_in more x) (span_has span x)
    (λ s. ended span.lo front x place.before (has_parts span x s).0)
    (λ s. none_below (run.hi + 2) more x apart.2 (omega (arith, (has_parts span x s).1, covers.1)))
    ∙ ap (λ (b : Bool). b && not (span_has span x)) (sym old))
