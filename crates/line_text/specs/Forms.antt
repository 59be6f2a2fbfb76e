-- The parts of a line's form, read from the front.
use Rattle.std.specs.Prelude.{ℕ, List, [], ◌∷◌, Option, Some, None, if◌then◌else◌, ◌==◌, ◌||◌, Bool, true, false}
use Rattle.line_text.specs.declared.token.Token.{Token}
use Rattle.line_text.specs.declared.token.Token.TheVariants.{Word, Number, Mark, Arrow}
use Rattle.line_text.specs.Reads.{◌>>=◌}
use Rattle.line_text.specs.Tokens.{is_word}

-- the token is this symbol
abbrev pub is_mark : ℕ → Token → Bool
is_mark c (Word w) = false
is_mark c (Number n) = false
is_mark c (Mark b) = b == c
is_mark c Arrow = false

-- the token is `=>`
abbrev pub is_arrow : Token → Bool
is_arrow (Word w) = false
is_arrow (Number n) = false
is_arrow (Mark b) = false
is_arrow Arrow = true

-- the tokens behind this symbol
unfoldable pub after_mark : ℕ → List Token → Option (List Token)
after_mark c [] = None
after_mark c (t ∷ ts) = if is_mark c t then Some ts else None

-- the tokens behind `=>`
unfoldable pub after_arrow : List Token → Option (List Token)
after_arrow [] = None
after_arrow (t ∷ ts) = if is_arrow t then Some ts else None

-- the tokens behind this word
unfoldable pub after_word : List ℕ → List Token → Option (List Token)
after_word expected [] = None
after_word expected (t ∷ ts) = if is_word expected t then Some ts else None

-- whether this word follows, and the tokens behind it
unfoldable pub flag_at : List ℕ → List Token → Bool × List Token
flag_at expected [] = (false, [])
flag_at expected (t ∷ ts) = if is_word expected t then (true, ts) else (false, t ∷ ts)

-- a word, and the tokens behind it
unfoldable pub word_at : List Token → Option (List ℕ × List Token)
word_at [] = None
word_at (Word word ∷ ts) = Some (word, ts)
word_at (Number n ∷ ts) = None
word_at (Mark b ∷ ts) = None
word_at (Arrow ∷ ts) = None

-- a number, and the tokens behind it
unfoldable pub number_at : List Token → Option (ℕ × List Token)
number_at [] = None
number_at (Word word ∷ ts) = None
number_at (Number n ∷ ts) = Some (n, ts)
number_at (Mark b ∷ ts) = None
number_at (Arrow ∷ ts) = None

-- nothing follows
unfoldable pub ended : List Token → Option (Unit {0})
ended [] = Some tt
ended (t ∷ ts) = None

-- a token before the first group
abbrev pub onto_first : Token → List (List Token) → List (List Token)
onto_first t [] = (t ∷ []) ∷ []
onto_first t (g ∷ gs) = (t ∷ g) ∷ gs

-- `)` or `,`
abbrev pub is_end : Token → Bool
is_end t = is_mark 41 t || is_mark 44 t

-- what stands between commas, up to the bracket that closes, and the tokens behind it
unfoldable pub groups : List Token → Option (List (List Token) × List Token)
groups [] = None
groups (t ∷ ts) =
    if is_mark 41 t then Some ([] ∷ [], ts)
    else (groups ts >>= λ g. Some (if is_mark 44 t then [] ∷ g.0 else onto_first t g.0, g.1))

-- each of them read
abbrev pub each : {A : Type 0} → (List Token → Option A) → List (List Token) → Option (List A)
each read [] = Some []
each read (g ∷ gs) = read g >>= λ x. (each read gs >>= λ xs. Some (x ∷ xs))

-- items between commas, up to the bracket that closes
abbrev pub items : {A : Type 0} → (List Token → Option A) → List Token → Option (List A × List Token)
items read ts = groups ts >>= λ g. (each read g.0 >>= λ xs. Some (xs, g.1))

-- a list in brackets
abbrev pub list_at : {A : Type 0} → (List Token → Option A) → List Token → Option (List A × List Token)
list_at read [] = None
list_at read (t ∷ []) = None
list_at read (t ∷ u ∷ ts) = if is_mark 40 t then (if is_mark 41 u then Some ([], ts) else items read (u ∷ ts)) else None

-- a word alone
unfoldable pub name_item : List Token → Option (List ℕ)
name_item ts = do
  name ← word_at ts
  e ← ended name.1
  Some name.0
