-- Lines that the answers share.
use Rattle.std.specs.Prelude.{ℕ, List, [], ◌∷◌, ◌++◌, codes, decimal}

-- words and a number, on a line
abbrev pub counted_text : List ℕ → ℕ → List ℕ
counted_text words n = words ++ decimal n ++ 10 ∷ []

abbrev pub too_many_text : ℕ → List ℕ
too_many_text n = counted_text (codes "too many cases ") n

-- the most cases that are looked at
abbrev pub most_cases : ℕ
most_cases = 100000
