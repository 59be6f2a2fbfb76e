-- Runs after an edit at a place, as those before it, what comes there, and those behind it.
use Rattle.std.proofs.Common.{◌≡◌, ℕ, zero, suc, ◌+◌, ◌-◌, ◌<◌, Bool, true, false, cond, List, [], ◌∷◌, ◌++◌, take, drop, set, length, get_or, refl, sym, ap, subst, ◌∙◌, arith}
use Rattle.std.specs.Prelude.{◌==◌, nat_lt}
use Rattle.std.specs.List.{insert, remove}
use Rattle.std.proofs.lemmas.List.{set_split}
use Rattle.std.proofs.lemmas.Bool.{cond-true, cond-false}
use Rattle.ind_base.specs.declared.span.Span.{Span}
use Rattle.partition_locks.specs.Edits.{begins_at, ends_before, in_front, put_in, remains}

next : (n : ℕ) → suc n ≡ n + 1
next n = omega arith

-- one in place of one
pub set_in : (runs : List Span) (at : ℕ) (w : Span) → at < length runs → set runs at w ≡ take at runs ++ (w ∷ drop (at + 1) runs)
set_in runs at w lt = set_split runs at w lt ∙ ap (λ (j : ℕ). take at runs ++ (w ∷ drop j runs)) (next at)

-- two in place of one
split_next : (runs : List Span) (at : ℕ) (low high : Span) → at < length runs → set (insert runs (suc at) high) at low ≡ take at runs ++ (low ∷ (high ∷ drop (suc at) runs))
split_next [] at low high lt = absurd (omega (arith, lt))
split_next (r ∷ rs) zero low high lt = refl
split_next (r ∷ rs) (suc at) low high lt = ap (λ (xs : List Span). r ∷ xs) (split_next rs at low high (omega (arith, lt)))

pub split_in : (runs : List Span) (at : ℕ) (low high : Span) → at < length runs → set (insert runs (at + 1) high) at low ≡ take at runs ++ (low ∷ (high ∷ drop (at + 1) runs))
split_in runs at low high lt = subst (λ (j : ℕ). set (insert runs j high) at low ≡ take at runs ++ (low ∷ (high ∷ drop j runs))) (next at) (split_next runs at low high lt)

-- what remains of a run, by the two tests
pub remains_are : (run span : Span) (x y : Bool) → nat_lt run.lo span.lo ≡ x → nat_lt span.hi run.hi ≡ y
    → remains run span ≡ cond x (record { lo = run.lo; hi = span.lo - 1 } ∷ []) [] ++ cond y (record { lo = span.hi + 1; hi = run.hi } ∷ []) []
remains_are run span x y is_x is_y =
    let low : Span = record { lo = run.lo; hi = span.lo - 1 } in
    let high : Span = record { lo = span.hi + 1; hi = run.hi } in
    ap (λ (b : Bool). cond b (low ∷ []) [] ++ cond (nat_lt span.hi run.hi) (high ∷ []) []) is_x ∙ ap (λ (b : Bool). cond x (low ∷ []) [] ++ cond b (high ∷ []) []) is_y

-- ---- a span in front

pub front_alone : (span : Span) (runs : List Span) → begins_at runs (span.hi + 1) ≡ false → in_front span runs ≡ span ∷ runs
front_alone span [] far = refl
front_alone span (run ∷ runs) far = cond-false (run.lo == span.hi + 1) (record { lo = span.lo; hi = run.hi } ∷ runs) (span ∷ (run ∷ runs)) far

front_joined : (span run : Span) (runs : List Span) → begins_at (run ∷ runs) (span.hi + 1) ≡ true → in_front span (run ∷ runs) ≡ record { lo = span.lo; hi = run.hi } ∷ runs
front_joined span run runs near = cond-true (run.lo == span.hi + 1) (record { lo = span.lo; hi = run.hi } ∷ runs) (span ∷ (run ∷ runs)) near

-- the run at the place begins where the span ends
pub set_front : (runs : List Span) (at : ℕ) (span : Span) (hi : ℕ) (d : Span) → begins_at (drop at runs) (span.hi + 1) ≡ true → hi ≡ (get_or runs at d).hi
    → set runs at (record { lo = span.lo; hi = hi }) ≡ take at runs ++ in_front span (drop at runs)
set_front [] zero span hi d near is = absurd cc
set_front [] (suc at) span hi d near is = absurd cc
set_front (r ∷ rs) zero span hi d near is =
    let w : ℕ → Span = λ h. record { lo = span.lo; hi = h } in
    ap (λ (h : ℕ). w h ∷ rs) is ∙ sym (front_joined span r rs near)
set_front (r ∷ rs) (suc at) span hi d near is = ap (λ (xs : List Span). r ∷ xs) (set_front rs at span hi d near is)

-- the run behind the place begins where the one there ends now
join_next : (runs : List Span) (at : ℕ) (w : Span) (hi : ℕ) (d : Span) → begins_at (drop (suc at) runs) (w.hi + 1) ≡ true → hi ≡ (get_or runs (suc at) d).hi
    → set (remove runs (suc at)) at (record { lo = w.lo; hi = hi }) ≡ take at runs ++ in_front w (drop (suc at) runs)
join_next [] at w hi d near is = absurd cc
join_next (r ∷ []) zero w hi d near is = absurd cc
join_next (r ∷ (n ∷ rs)) zero w hi d near is =
    let one : ℕ → Span = λ h. record { lo = w.lo; hi = h } in
    ap (λ (h : ℕ). one h ∷ rs) is ∙ sym (front_joined w n rs near)
join_next (r ∷ rs) (suc at) w hi d near is = ap (λ (xs : List Span). r ∷ xs) (join_next rs at w hi d near is)

pub join_in : (runs : List Span) (at : ℕ) (w : Span) (hi : ℕ) (d : Span) → begins_at (drop (at + 1) runs) (w.hi + 1) ≡ true → hi ≡ (get_or runs (at + 1) d).hi
    → set (remove runs (at + 1)) at (record { lo = w.lo; hi = hi }) ≡ take at runs ++ in_front w (drop (at + 1) runs)
join_in runs at w hi d =
    subst (λ (j : ℕ). begins_at (drop j runs) (w.hi + 1) ≡ true → hi ≡ (get_or runs j d).hi → set (remove runs j) at (record { lo = w.lo; hi = hi }) ≡ take at runs ++ in_front w (drop j runs)) (next at) (join_next runs at w hi d)

-- ---- a span put in

pub put_behind : (span run : Span) (runs : List Span) → ends_before (run ∷ runs) span.lo ≡ true → put_in span (run ∷ runs) ≡ in_front (record { lo = run.lo; hi = span.hi }) runs
put_behind span run runs near = cond-true (run.hi + 1 == span.lo) (in_front (record { lo = run.lo; hi = span.hi }) runs) (in_front span (run ∷ runs)) near

pub put_before : (span : Span) (runs : List Span) → ends_before runs span.lo ≡ false → put_in span runs ≡ in_front span runs
put_before span [] far = refl
put_before span (run ∷ runs) far = cond-false (run.hi + 1 == span.lo) (in_front (record { lo = run.lo; hi = span.hi }) runs) (in_front span (run ∷ runs)) far
