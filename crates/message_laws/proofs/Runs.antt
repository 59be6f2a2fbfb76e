-- Runs of held points: each is in order and within its span, and there is none where no point is held.
use Rattle.std.proofs.Common.{◌≡◌, ℕ, zero, suc, ◌+◌, ◌-◌, ◌<◌, ◌≤◌, Bool, true, false, List, [], ◌∷◌, map, filter, refl, sym, ap, ◌∙◌, arith, eqb-true, le-leb}
use Rattle.std.specs.Prelude.{Some, None, Option, ◌==◌, slice_get}
use Rattle.std.specs.List.{AllByRecursion}
use Rattle.std.specs.Option.{option_map}
use Rattle.std.proofs.lemmas.Bool.{and_from, cond_both, cond-false}
use Rattle.std.proofs.lemmas.Option.{same_Some}
use Rattle.ind_base.specs.declared.span.Span.{Span}
use Rattle.spec_model.specs.declared.plan.Setup.{Setup}
use Rattle.spec_model.specs.declared.right.Held.TheVariants as held
use Rattle.spec_model.specs.declared.right.Piece.{Piece}
use Rattle.spec_model.specs.declared.right.Piece.TheVariants as piece
use Rattle.spec_model.specs.declared.right.Right.{Right}
use Rattle.spec_model.specs.declared.right.Right.TheVariants as right
use Rattle.spec_model.specs.declared.right.WantAsk.{WantAsk}
use Rattle.spec_model.specs.declared.right.WantAsk.TheVariants as asked
use Rattle.spec_model.specs.declared.log.LogItem.{LogItem}
use Rattle.spec_model.specs.Truths.{span_has}
use Rattle.spec_model.specs.Universe.{below}
use Rattle.run_model.specs.Holding.{held_right, span_in}
use Rattle.run_model.specs.Logs.{Logs}
use Rattle.run_model.specs.Points.{holds_point, points_of, run_of, runs_of, with_point}
use Rattle.run_model.specs.Wants.{amount_of, piece_for}
use Rattle.run_model.proofs.Lists.{each_append, each_at}
use Rattle.run_model.proofs.Pieces.{piece_held}

-- ---- each of some numbers

below_each : (P : ℕ → Type 0) (n : ℕ) → ((i : ℕ) → i < n → P i) → AllByRecursion P (below n)
below_each P zero so = tt
below_each P (suc n) so = each_append P (below n) (n ∷ []) (below_each P n (λ i lt. so i (omega (arith, lt)))) (so n (omega arith), tt)

moved_each : (P : ℕ → Type 0) (lo : ℕ) (xs : List ℕ) → AllByRecursion (λ i. P (lo + i)) xs → AllByRecursion P (map (λ i. lo + i) xs)
moved_each P lo [] all = tt
moved_each P lo (x ∷ xs) all = (all.0, moved_each P lo xs all.1)

-- ---- in order

abbrev IsOrdered : Span → Type 0
IsOrdered s = s.lo ≤ s.hi

-- with a point before them
with_ordered : (x : ℕ) (runs : List Span) → AllByRecursion IsOrdered runs → AllByRecursion IsOrdered (with_point x runs)
with_ordered x [] all = (omega arith, tt)
with_ordered x (run ∷ runs) all =
    let more : Span = record { lo = x; hi = run.hi } in
    let one : Span = record { lo = x; hi = x } in
    cond_both (run.lo == x + 1) (more ∷ runs) (one ∷ (run ∷ runs)) (AllByRecursion IsOrdered)
    (λ next. (omega (arith, all.0, eqb-true run.lo (x + 1) next), all.1))
    (λ far. (omega arith, all))

runs_ordered : (xs : List ℕ) → AllByRecursion IsOrdered (runs_of xs)
runs_ordered [] = tt
runs_ordered (x ∷ xs) = with_ordered x (runs_of xs) (runs_ordered xs)

run_ordered : (holds : ℕ → Bool) (span s : Span) → run_of holds span ≡ Some s → s.lo ≤ s.hi
run_ordered holds span s is = let xs : List ℕ = filter holds (points_of span) in each_at IsOrdered (runs_of xs) 0 s (runs_ordered xs) is

-- ---- within a span

abbrev EndsBy : ℕ → Span → Type 0
EndsBy n s = s.hi ≤ n

-- with a point before them
with_within : (n x : ℕ) (runs : List Span) → x ≤ n → AllByRecursion (EndsBy n) runs → AllByRecursion (EndsBy n) (with_point x runs)
with_within n x [] le all = (le, tt)
with_within n x (run ∷ runs) le all =
    let more : Span = record { lo = x; hi = run.hi } in
    let one : Span = record { lo = x; hi = x } in
    cond_both (run.lo == x + 1) (more ∷ runs) (one ∷ (run ∷ runs)) (AllByRecursion (EndsBy n)) (λ next. (all.0, all.1)) (λ far. (le, all))

runs_within : (n : ℕ) (xs : List ℕ) → AllByRecursion (λ x. x ≤ n) xs → AllByRecursion (EndsBy n) (runs_of xs)
runs_within n [] all = tt
runs_within n (x ∷ xs) all = with_within n x (runs_of xs) all.0 (runs_within n xs all.1)

-- so are those that are held
held_within : (n : ℕ) (holds : ℕ → Bool) (xs : List ℕ) → AllByRecursion (λ x. x ≤ n) xs → AllByRecursion (λ x. x ≤ n) (filter holds xs)
held_within n holds [] all = tt
held_within n holds (x ∷ xs) all =
    let rest = held_within n holds xs all.1 in
    cond_both (holds x) (x ∷ filter holds xs) (filter holds xs) (AllByRecursion (λ y. y ≤ n)) (λ yes. (all.0, rest)) (λ no. rest)

run_within : (holds : ℕ → Bool) (span s : Span) → run_of holds span ≡ Some s → s.hi ≤ span.hi
run_within holds span s is =
    let n : ℕ = (span.hi + 1) - span.lo in
    let each = moved_each (λ (x : ℕ). x ≤ span.hi) span.lo (below n) (below_each (λ (i : ℕ). span.lo + i ≤ span.hi) n (λ i lt. omega (arith, lt))) in
    each_at (EndsBy span.hi) (runs_of (filter holds (points_of span))) 0 s (runs_within span.hi (filter holds (points_of span)) (held_within span.hi holds (points_of span) each)) is

-- what is given of points: a run of them in the span that was asked for
pub points_given : (holds : ℕ → Bool) (missing : Option ℕ) (span : Span) (pc : Piece) → piece_for (held.Points missing (run_of holds span)) (asked.Points span) ≡ Some pc
    → (s : Span) × (pc ≡ piece.Points s) × (s.lo ≤ s.hi) × (s.hi ≤ span.hi)
points_given holds missing span pc is = by_run (run_of holds span) refl is
  where
    by_run : (o : Option Span) → run_of holds span ≡ o → option_map (λ t. piece.Points t) o ≡ Some pc → (s : Span) × (pc ≡ piece.Points s) × (s.lo ≤ s.hi) × (s.hi ≤ span.hi)
    by_run None run e = absurd cc
    by_run (Some t) run e = (t, sym (same_Some (piece.Points t) pc e), run_ordered holds span t run, run_within holds span t run)

-- the points of a piece, if it has points, are in ascending order
abbrev pub IsInOrder : Piece → Type 0
IsInOrder (piece.Count n) = Unit {0}
IsInOrder (piece.Shares n m) = Unit {0}
IsInOrder (piece.Points span) = span.lo ≤ span.hi

-- so are those that are given
pub piece_ordered : (setup : Setup) (logs : Logs) (me : ℕ) (own : List LogItem) (r : Right) (ask : WantAsk) (pc : Piece) → piece_for (held_right setup logs me own r (span_in (amount_of ask))) ask ≡ Some pc → IsInOrder pc
piece_ordered setup logs me own r ask (piece.Count n) h = tt
piece_ordered setup logs me own r ask (piece.Shares n m) h = tt
piece_ordered setup logs me own (right.Low c) ask (piece.Points s) h = absurd (piece_held setup logs me own (right.Low c) ask (piece.Points s) h)
piece_ordered setup logs me own (right.High c) ask (piece.Points s) h = absurd (piece_held setup logs me own (right.High c) ask (piece.Points s) h)
piece_ordered setup logs me own (right.Lock l key) ask (piece.Points s) h = absurd (piece_held setup logs me own (right.Lock l key) ask (piece.Points s) h)
piece_ordered setup logs me own (right.Entry c args i) ask (piece.Points s) h = absurd (piece_held setup logs me own (right.Entry c args i) ask (piece.Points s) h)
piece_ordered setup logs me own (right.Part q key) (asked.Count n) (piece.Points s) h = absurd cc
piece_ordered setup logs me own (right.Part q key) (asked.Level l) (piece.Points s) h = absurd cc
piece_ordered setup logs me own (right.Part q key) (asked.Points span) (piece.Points s) h =
    let holds = holds_point setup logs me own (right.Part q key) in
    run_ordered holds span s (given_run (run_of holds span) s h)
  where
    given_run : (o : Option Span) (s : Span) → option_map (λ t. piece.Points t) o ≡ Some (piece.Points s) → o ≡ Some s
    given_run None s is = absurd cc
    given_run (Some t) s is = cc

-- ---- none

-- of points of which none is held none is kept
none_kept : (holds : ℕ → Bool) (xs : List ℕ) → AllByRecursion (λ x. holds x ≡ false) xs → filter holds xs ≡ []
none_kept holds [] all = refl
none_kept holds (x ∷ xs) all = cond-false (holds x) (x ∷ filter holds xs) (filter holds xs) all.0 ∙ none_kept holds xs all.1

-- where no point of the span is held there is no run
pub no_run : (holds : ℕ → Bool) (span : Span) → ((x : ℕ) → span_has span x ≡ true → holds x ≡ false) → run_of holds span ≡ None
no_run holds span none =
    let n : ℕ = (span.hi + 1) - span.lo in
    let each = moved_each (λ (x : ℕ). holds x ≡ false) span.lo (below n) (below_each (λ (i : ℕ). holds (span.lo + i) ≡ false) n
    (λ i lt. none (span.lo + i) (and_from _ _ (le-leb span.lo (span.lo + i) (omega arith)) (le-leb (span.lo + i) span.hi (omega (arith, lt)))))) in
    ap (λ (xs : List ℕ). slice_get (runs_of xs) 0) (none_kept holds (points_of span) each)
