-- The words of a line.
use Rattle.std.specs.Prelude.{ℕ, Bool, true, false, List, [], ◌∷◌, ◌++◌, Option, Some, None, if◌then◌else◌, ◌==◌, codes}
use Rattle.std.specs.Str.{bytes_eq}
use Rattle.line_text.specs.Lines.{onto_first}
use Rattle.line_text.specs.Reads.{◌>>=◌}

-- one blank (32) stands between two words, so that an empty line is one empty word
abbrev pub words_of : List ℕ → List (List ℕ)
words_of [] = [] ∷ []
words_of (b ∷ bs) = if b == 32 then [] ∷ words_of bs else onto_first b (words_of bs)

-- the words of a line that is left, unless all were read
abbrev pub words_left : Bool → List ℕ → List (List ℕ)
words_left true line = []
words_left false line = words_of line

abbrev pub is_none : List (List ℕ) → Bool
is_none [] = true
is_none (w ∷ ws) = false

-- each word behind a blank
abbrev pub behind : List (List ℕ) → List ℕ
behind [] = []
behind (w ∷ ws) = 32 ∷ (w ++ behind ws)

-- how words are written
abbrev pub spaced : List (List ℕ) → List ℕ
spaced [] = []
spaced (w ∷ ws) = w ++ behind ws

-- what stands before and behind the first that passes
abbrev pub cut : {X : Type 0} → (X → Bool) → List X → Option (List X × List X)
cut test [] = None
cut test (x ∷ xs) = if test x then Some ([], xs) else (cut test xs >>= λ r. Some (x ∷ r.0, r.1))

abbrev pub is_byte : ℕ → ℕ → Bool
is_byte c b = b == c

-- the bytes before and behind the first of this kind
unfoldable pub cut_at : ℕ → List ℕ → Option (List ℕ × List ℕ)
cut_at c bytes = cut (is_byte c) bytes

abbrev pub is_semicolon : List ℕ → Bool
is_semicolon w = bytes_eq w (codes ";")

-- the words before and behind the first `;`
unfoldable pub cut_words : List (List ℕ) → Option (List (List ℕ) × List (List ℕ))
cut_words ws = cut is_semicolon ws
