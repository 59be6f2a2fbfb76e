-- What is missing of a span, and the runs in it.
use Rattle.std.proofs.Common.{filter, ◌≡◌, inl, inr, ℕ, ◌+◌, ◌-◌, ◌<◌, ◌≤◌, Bool, true, false, not, List, [], ◌∷◌, refl, sym, ap, subst, ◌∙◌, arith}
use Rattle.std.specs.Prelude.{Some, None, slice_get, min, max, ◌||◌}
use Rattle.std.specs.List.{find, AllByRecursion}
use Rattle.std.proofs.lemmas.Bool.{cases_lt, or_left, or_right}
use Rattle.ind_base.specs.declared.span.Span.{Span}
use Rattle.spec_model.specs.Truths.{span_has}
use Rattle.spec_model.specs.Universe.{below}
use Rattle.run_model.specs.Points.{missing_of, run_of, runs_of}
use Rattle.partition_locks.specs.Held.{AreApart, lies_in}
use Rattle.partition_locks.proofs.Rows.{between, points_between, below_between, between_none, find_skip, find_here, agree, skip}
use Rattle.partition_locks.proofs.Blocks.{first_block, StartsAbove, starts_behind}
use Rattle.partition_locks.proofs.Apart.{Around, around_first, apart_from, lacks_above, has}

-- ---- a span

pub empty_missing : (P : ℕ → Bool) (span : Span) → span.hi < span.lo → missing_of P span ≡ None
empty_missing P span lt = ap (find (λ x. not (P x))) (points_between span ∙ between_none span.lo (span.hi + 1) (omega (arith, lt)))

pub first_missing : (P : ℕ → Bool) (span : Span) → span.lo ≤ span.hi → P span.lo ≡ false → missing_of P span ≡ Some span.lo
first_missing P span le fails = ap (find (λ x. not (P x))) (points_between span) ∙ find_here P span.lo (span.hi + 1) (omega (arith, le)) fails

pub missing_behind : (P : ℕ → Bool) (span run : Span) → Around P span.lo run → run.lo ≤ span.lo → run.hi < span.hi → missing_of P span ≡ Some (run.hi + 1)
missing_behind P span run h low high =
    ap (find (λ x. not (P x))) (points_between span)
    ∙ (find_skip P ((run.hi + 1) - span.lo) span.lo (run.hi + 1) (span.hi + 1) (omega (arith, h.reach)) (omega (arith, high)) (λ y l r. h.here y l (omega (arith, low, l)) (omega (arith, r)))
    ∙ find_here P (run.hi + 1) (span.hi + 1) (omega (arith, high)) h.behind)

pub missing_nothing : (P : ℕ → Bool) (span run : Span) → span.lo ≤ span.hi → Around P span.lo run → run.lo ≤ span.lo → span.hi ≤ run.hi → missing_of P span ≡ None
missing_nothing P span run le h low high =
    ap (find (λ x. not (P x))) (points_between span)
    ∙ (find_skip P ((span.hi + 1) - span.lo) span.lo (span.hi + 1) (span.hi + 1) (omega (arith, le)) (omega arith) (λ y l r. h.here y l (omega (arith, low, l)) (omega (arith, high, r)))
    ∙ ap (find (λ x. not (P x))) (between_none (span.hi + 1) (span.hi + 1) (omega arith)))

pub empty_run : (P : ℕ → Bool) (span : Span) → span.hi < span.lo → run_of P span ≡ None
empty_run P span lt = ap (λ (xs : List ℕ). slice_get (runs_of (filter P xs)) 0) (points_between span ∙ between_none span.lo (span.hi + 1) (omega (arith, lt)))

none_pass : (P : ℕ → Bool) (d a e : ℕ) → e ≡ a + d → ((y : ℕ) → a ≤ y → y < e → P y ≡ false) → filter P (between a e) ≡ []
none_pass P d a e is fails = skip P d a e e is (omega arith) fails ∙ ap (filter P) (between_none e e (omega arith))

pub no_run : (P : ℕ → Bool) (span : Span) → span.lo ≤ span.hi → ((y : ℕ) → span.lo ≤ y → y ≤ span.hi → P y ≡ false) → run_of P span ≡ None
no_run P span le fails =
    ap (λ (xs : List ℕ). slice_get (runs_of (filter P xs)) 0) (points_between span)
    ∙ ap (λ (xs : List ℕ). slice_get (runs_of xs) 0) (none_pass P ((span.hi + 1) - span.lo) span.lo (span.hi + 1) (omega (arith, le)) (λ y l r. fails y l (omega (arith, r))))

gap_behind : (P : ℕ → Bool) (span run : Span) (h : ℕ) → Around P span.lo run → h ≡ min run.hi span.hi → StartsAbove (h + 1) (filter P (between (h + 1) (span.hi + 1)))
gap_behind P span run h a is =
    elim (cases_lt run.hi span.hi) [
      | inl lt ↦ let it : run.hi ≡ h = omega (arith, is, lt) in subst (λ (z : ℕ). StartsAbove (z + 1) (filter P (between (z + 1) (span.hi + 1)))) it (starts_behind P (run.hi + 1) (span.hi + 1) a.behind)
      | inr le ↦ subst (λ (xs : List ℕ). StartsAbove (h + 1) (filter P xs)) (sym (between_none (h + 1) (span.hi + 1) (omega (arith, is, le)))) tt
    ]

pub run_found : (P : ℕ → Bool) (span run : Span) (b h : ℕ) → span.lo ≤ span.hi → Around P span.lo run → run.lo ≤ span.hi → b ≡ max run.lo span.lo → h ≡ min run.hi span.hi → run_of P span ≡ Some (record { lo = b; hi = h })
run_found P span run b h le a low is_b is_h =
    ap (λ (xs : List ℕ). slice_get (runs_of (filter P xs)) 0) (points_between span)
    ∙ ap (λ (rs : List Span). slice_get rs 0) (first_block P span.lo (span.hi + 1) b h (omega (arith, is_b)) (omega (arith, is_b, is_h, le, a.reach, a.some, low)) (omega (arith, is_h))
    (λ y l r. a.gap y l (omega (arith, is_b, l, r))) (λ y l r. a.here y (omega (arith, is_b, l)) (omega (arith, is_b, l)) (omega (arith, is_h, r))) (gap_behind P span run h a is_h))

-- ---- all of them

nothing_passes : (xs : List ℕ) → filter (lies_in []) xs ≡ []
nothing_passes [] = refl
nothing_passes (x ∷ xs) = nothing_passes xs

-- the runs that are apart are the maximal ones
pub all_runs : (from e : ℕ) (runs : List Span) → AreApart from runs → AllByRecursion (λ (run : Span). run.hi < e) runs → runs_of (filter (lies_in runs) (between from e)) ≡ runs
all_runs from e [] h ends = ap runs_of (nothing_passes (between from e))
all_runs from e (run ∷ more) h ends =
    let P : ℕ → Bool = lies_in (run ∷ more) in
    let a = around_first from from run more h (omega (arith, h.0, h.1)) in
    let rest = all_runs (run.hi + 1) e more (apart_from (run.hi + 1) (run.hi + 2) more (omega arith) h.2) ends.1 in
    let same : filter P (between (run.hi + 1) e) ≡ filter (lies_in more) (between (run.hi + 1) e) =
    agree P (lies_in more) (run.hi + 1) (e - (run.hi + 1)) (λ y low. ap (λ (b : Bool). b || lies_in more y) (lacks_above run y (omega (arith, low)))) in
    first_block P from e run.lo run.hi h.0 h.1 ends.0 (λ y l r. a.gap y l r) (λ y l r. a.here y (omega (arith, l, h.0)) l r) (starts_behind P (run.hi + 1) e a.behind)
    ∙ ap (λ (rs : List Span). run ∷ rs) (ap runs_of same ∙ rest)

-- each run ends below what is above all points
pub ends_below : (e from : ℕ) (runs : List Span) → AreApart from runs → ((x : ℕ) → lies_in runs x ≡ true → x < e) → AllByRecursion (λ (run : Span). run.hi < e) runs
ends_below e from [] h above = tt
ends_below e from (run ∷ runs) h above = (
  above run.hi (or_left (span_has run run.hi) (lies_in runs run.hi) (has run run.hi h.1 (omega arith))),
  ends_below e (run.hi + 2) runs h.2 (λ x lies. above x (or_right (span_has run x) (lies_in runs x) lies)),
)

pub maximal_runs : (e : ℕ) (runs : List Span) → AreApart 0 runs → ((x : ℕ) → lies_in runs x ≡ true → x < e) → runs ≡ runs_of (filter (lies_in runs) (below e))
maximal_runs e runs h above = sym (ap (λ (xs : List ℕ). runs_of (filter (lies_in runs) xs)) (below_between e) ∙ all_runs 0 e runs h (ends_below e 0 runs h above))
