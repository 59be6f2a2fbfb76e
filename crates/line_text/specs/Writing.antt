-- The text of a list in brackets, with commas and no spaces.
use Rattle.std.specs.Prelude.{ℕ, List, [], ◌∷◌, ◌++◌}

-- items behind the first one, and the bracket that closes
abbrev pub behind_text : {A : Type 0} → (A → List ℕ) → List A → List ℕ
behind_text text [] = 41 ∷ []
behind_text text (x ∷ xs) = 44 ∷ (text x ++ behind_text text xs)

-- a list in brackets
abbrev pub listing_text : {A : Type 0} → (A → List ℕ) → List A → List ℕ
listing_text text [] = 40 ∷ 41 ∷ []
listing_text text (x ∷ xs) = 40 ∷ (text x ++ behind_text text xs)
