-- The rule of a desk, which holds between any two steps.
-- Word 0 is `serving`, word 1 is `ticket`, and the one slot has the value.
use Rattle.std.specs.Prelude.{◌≡◌, ◌⊎◌, ℕ, ◌+◌, ◌<◌, ◌≤◌, ◌^◌, true, false, List, [], ◌∷◌, length, sum_by, if◌then◌else◌, nat_lt, Option, Some}
use mathlib.Core.Option.{some, none}
use mathlib.Core.List.{IsPrefix}
use lib.ListN.{get_elem?}
use Rattle.atomic_table.specs.Table.{State}
use Rattle.turn_desk.specs.declared.line.Entry.{Entry}
use Rattle.turn_desk.specs.declared.pass.Key.{Key}
use Rattle.turn_desk.specs.declared.pass.View.{View}
use Rattle.turn_desk.specs.Line.{served, entries}
use Rattle.turn_desk.specs.Views.{waiting, turns_of, claims}

-- 1 where the place is below n
abbrev pub once_below : ℕ → ℕ → ℕ
once_below place n = if nat_lt place n then 1 else 0

-- what one pass knows is true of the line, and its turns with its ticket are at most its parts
pub record Fits {A B O : Type 0} (opening : O) (line : List (Entry A B)) (v : View A B O) : Type 0 where
  pub opens : 0 < v.parts → v.opening ≡ Some opening
  pub seen : IsPrefix (entries v.notes) line
  pub beside : IsPrefix (entries v.beside) line
  pub waits : (t : ℕ) → v.ticket ≡ Some t → length line ≤ t
  pub served_now : v.serves ≡ true → (v.ticket ≡ Some (length line)) × (entries v.notes ≡ line)
  pub room : turns_of v ≤ v.parts

module _ {V A B O : Type 0} where
  -- the value is in the hand of a pass
  abbrev pub IsOut : State (Option V) (View A B O) → Type 0
  IsOut s =
      (s.homes ≡ none ∷ [])
      × ((id : ℕ) × (v : View A B O) × (get_elem? s.views id ≡ some v) × (v.serves ≡ true))

module _ {V A B O : Type 0} (history : V → List (A × B)) (opening : V → O) where
  -- the value is at home and stands for the line, and no pass is served
  abbrev pub IsHome : O → List (Entry A B) → State (Option V) (View A B O) → Type 0
  IsHome first line s =
      (x : V) × (s.homes ≡ some (Some x) ∷ []) × (history x ≡ served line) × (opening x ≡ first)
      × ((id : ℕ) (v : View A B O) → get_elem? s.views id ≡ some v → v.serves ≡ false)

module _ {V A B O : Type 0} (history : V → List (A × B)) (opening : V → O) (room : O → ℕ) where
  -- `serving` is the line's length, `ticket` is how many were drawn, and each place below it is of one pass
  pub record IsKept (key : Key V) (s : State (Option V) (View A B O)) : Type 0 where
    pub line : List (Entry A B)
    pub words : s.words ≡ length line ∷ (length line + sum_by waiting s.views) ∷ []
    pub parts : sum_by (λ v. v.parts) s.views ≡ key.parts
    pub small : (key.parts < 2 ^ 32) × (key.parts ≤ room (opening key.first.value))
    pub turns : sum_by turns_of s.views ≡ length line + sum_by waiting s.views
    pub once : (p : ℕ) → sum_by (claims p) s.views ≡ once_below p (length line + sum_by waiting s.views)
    pub each : (id : ℕ) (v : View A B O) → get_elem? s.views id ≡ some v → Fits (opening key.first.value) line v
    pub value : IsHome history opening (opening key.first.value) line s ⊎ IsOut s
