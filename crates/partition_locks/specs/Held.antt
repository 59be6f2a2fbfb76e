-- Points that are held, as runs.
use Rattle.std.specs.Prelude.{ℕ, ◌≡◌, ◌+◌, ◌<◌, ◌≤◌, List, [], ◌∷◌, Bool, true, false, not, ◌&&◌, ◌||◌, filter, length, if◌then◌else◌, is_some, Option, Some, None, nat_lt, min, ◌-◌}
use Rattle.std.specs.List.{list_any}
use Rattle.ind_base.specs.declared.span.Span.{Span}
use Rattle.spec_model.specs.Truths.{span_has}
use Rattle.run_model.specs.Points.{points_of, missing_of}

-- what is held, and for how many pieces more there is room
pub record HeldPoints : Type 0 where
  pub runs : List Span
  pub spare : ℕ

-- spans from a point on, in ascending order, none empty, of which no two touch
abbrev pub AreApart : ℕ → List Span → Type 0
AreApart from [] = Unit {0}
AreApart from (run ∷ runs) = (from ≤ run.lo) × (run.lo ≤ run.hi) × AreApart (run.hi + 2) runs

-- the point lies in one of the runs
abbrev pub lies_in : List Span → ℕ → Bool
lies_in runs x = list_any (λ run. span_has run x) runs

-- the point is held
abbrev pub holds : HeldPoints → ℕ → Bool
holds h x = lies_in h.runs x

-- how often a point is held: at most once
abbrev pub held_times : HeldPoints → ℕ → ℕ
held_times h x = if holds h x then 1 else 0

-- how often a piece has a point
abbrev pub point_times : Span → ℕ → ℕ
point_times span x = if span_has span x then 1 else 0

-- how many points of the span are held
abbrev pub held_in : HeldPoints → Span → ℕ
held_in h span = length (filter (holds h) (points_of span))

-- all points of the span are held
abbrev pub holds_all : HeldPoints → Span → Bool
holds_all h span = not (is_some (missing_of (holds h) span))

-- none of the span's points is held
abbrev pub IsFree : HeldPoints → Span → Type 0
IsFree h span = (x : ℕ) → span_has span x ≡ true → holds h x ≡ false

-- every point that is held is below this one
abbrev pub IsAbove : ℕ → HeldPoints → Type 0
IsAbove all h = (x : ℕ) → holds h x ≡ true → x < all

-- every run ends below this point
abbrev pub are_below : ℕ → List Span → Bool
are_below all [] = true
are_below all (run ∷ runs) = nat_lt run.hi all && are_below all runs

-- all points are below 1024, and there is room for one run more than there can be of such
abbrev pub is_roomy : HeldPoints → Bool
is_roomy h = nat_lt 512 (length h.runs + h.spare) && are_below 1024 h.runs

-- what of the runs lies below a point
abbrev pub clipped : ℕ → List Span → List Span
clipped all [] = []
clipped all (run ∷ runs) = if nat_lt run.lo all then record { lo = run.lo; hi = min run.hi (all - 1) } ∷ clipped all runs else clipped all runs

-- the point lies in the span, where there is one
abbrev pub lies_within : Option Span → ℕ → Bool
lies_within None x = false
lies_within (Some span) x = span_has span x

-- without the span's points
abbrev pub HoldsLess : HeldPoints → Span → HeldPoints → Type 0
HoldsLess old span new = (x : ℕ) → holds new x ≡ (holds old x && not (span_has span x))

-- with the span's points
abbrev pub HoldsMore : HeldPoints → Span → HeldPoints → Type 0
HoldsMore old span new = (x : ℕ) → holds new x ≡ (holds old x || span_has span x)

-- where all points of a span are held, so many are held as it has
abbrev pub HeldIsWhole : Type 0
HeldIsWhole = (h : HeldPoints) (span : Span) → holds_all h span ≡ true → held_in h span ≡ length (points_of span)
