-- The runs of letters, digits and `_` in a line, and the words among its tokens.
use Rattle.std.specs.Prelude.{ℕ, Bool, List, [], ◌∷◌}
use Rattle.std.specs.Str.{bytes_eq}
use Rattle.std.specs.List.{list_any}
use Rattle.line_text.specs.declared.token.Token.{Token}
use Rattle.line_text.specs.Tokens.{Piece, Run, Arrow, Mark, pieces, is_word}

-- the runs alone
abbrev pub runs_in : List Piece → List (List ℕ)
runs_in [] = []
runs_in (Run bytes ∷ ps) = bytes ∷ runs_in ps
runs_in (Arrow ∷ ps) = runs_in ps
runs_in (Mark b ∷ ps) = runs_in ps

-- the runs of a line
unfoldable pub runs_of : List ℕ → List (List ℕ)
runs_of line = runs_in (pieces line)

-- a run before those behind it, where there is one
abbrev pub run_before : List ℕ → List (List ℕ) → List (List ℕ)
run_before [] runs = runs
run_before (b ∷ bs) runs = (b ∷ bs) ∷ runs

-- one of these words
abbrev pub is_one_of : List (List ℕ) → List ℕ → Bool
is_one_of words run = list_any (λ w. bytes_eq run w) words

-- a token that is one of these words
abbrev pub is_among : List (List ℕ) → Token → Bool
is_among words t = list_any (λ w. is_word w t) words
