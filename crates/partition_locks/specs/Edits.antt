-- Runs, and what edits leave of them.
use Rattle.std.specs.Prelude.{ℕ, ◌≡◌, ◌+◌, ◌-◌, ◌<◌, ◌≤◌, List, [], ◌∷◌, ◌++◌, Bool, false, ◌==◌, nat_lt, if◌then◌else◌, length, take, drop, Vec, vec_capacity, vec_len}
use Rattle.std.specs.List.{AllByRecursion}
use Rattle.ind_base.specs.declared.span.Span.{Span}

-- for how many more there is room
abbrev pub spare_in : {A : Type 0} → Vec Span A → ℕ
spare_in v = vec_capacity v - vec_len v

-- there was no room, and nothing changed
pub record StaysFull {A : Type 0} (old : Vec Span A) (new : Vec Span A) : Type 0 where
  pub full : spare_in old ≡ 0
  pub spare : spare_in new ≡ spare_in old
  pub items : new.items ≡ old.items

-- the first run, if there is one, ends at the point or after it
abbrev pub ReachesTo : ℕ → List Span → Type 0
ReachesTo x [] = Unit {0}
ReachesTo x (run ∷ runs) = x ≤ run.hi

-- the place of the first run that ends at the point or after it
pub record IsPlace (runs : List Span) (x : ℕ) (at : ℕ) : Type 0 where
  pub within : at ≤ length runs
  pub before : AllByRecursion (λ run. run.hi < x) (take at runs)
  pub reaches : ReachesTo x (drop at runs)

-- what is left of a run without the span's points
abbrev pub remains : Span → Span → List Span
remains run span = (if nat_lt run.lo span.lo then record { lo = run.lo; hi = span.lo - 1 } ∷ [] else []) ++ (if nat_lt span.hi run.hi then record { lo = span.hi + 1; hi = run.hi } ∷ [] else [])

-- the first run begins at the point
abbrev pub begins_at : List Span → ℕ → Bool
begins_at [] x = false
begins_at (run ∷ runs) x = run.lo == x

-- the first run ends just before the point
abbrev pub ends_before : List Span → ℕ → Bool
ends_before [] x = false
ends_before (run ∷ runs) x = run.hi + 1 == x

-- a span before runs, joined with the first where they touch
abbrev pub in_front : Span → List Span → List Span
in_front span [] = span ∷ []
in_front span (run ∷ runs) = if run.lo == span.hi + 1 then record { lo = span.lo; hi = run.hi } ∷ runs else span ∷ (run ∷ runs)

-- a span among runs of which only the first may end before it
abbrev pub put_in : Span → List Span → List Span
put_in span [] = span ∷ []
put_in span (run ∷ runs) = if run.hi + 1 == span.lo then in_front (record { lo = run.lo; hi = span.hi }) runs else in_front span (run ∷ runs)
