-- A document with a plan and a certificate behind it.
use Rattle.std.specs.Prelude.{◌≡◌, ◌≢◌, ◌⊎◌, ℕ, ◌+◌, ◌<◌, ◌≤◌, Bool, false, if◌then◌else◌, List, [], ◌∷◌, length, get_or, codes}
use Rattle.std.specs.Str.{bytes_eq}

abbrev pub is_plan : List ℕ → Bool
is_plan line = bytes_eq line (codes "plan")

abbrev pub has_plan_first : List (List ℕ) → Bool
has_plan_first [] = false
has_plan_first (line ∷ lines) = is_plan line

-- the lines before the first one that is `plan`
abbrev pub document_lines : List (List ℕ) → List (List ℕ)
document_lines [] = []
document_lines (line ∷ lines) = if is_plan line then [] else line ∷ document_lines lines

-- that line and those behind it
abbrev pub plan_lines : List (List ℕ) → List (List ℕ)
plan_lines [] = []
plan_lines (line ∷ lines) = if is_plan line then line ∷ lines else plan_lines lines

-- none of the first n bytes ends a line
abbrev pub HasNoEnd : ℕ → List ℕ → Type 0
HasNoEnd n bytes = (k : ℕ) → k < n → get_or bytes k 0 ≢ 10

-- the first line has n bytes: up to its line feed, or all
abbrev pub IsFirstLine : List ℕ → ℕ → Type 0
IsFirstLine bytes n =
    ((n ≡ length bytes) × HasNoEnd n bytes)
    ⊎ ((m : ℕ) × (n ≡ m + 1) × (m < length bytes) × HasNoEnd m bytes × (get_or bytes m 0 ≡ 10))
