-- The tokens of a line.
use Rattle.std.specs.Prelude.{ℕ, ◌+◌, Bool, true, false, List, [], ◌∷◌, length, Option, Some, None, if◌then◌else◌, ◌==◌, ◌&&◌, ◌||◌, nat_le, codes}
use Rattle.std.specs.Str.{bytes_eq}
use Rattle.ind_base.specs.Numbers.{num_of}
use Rattle.line_text.specs.declared.token.Token.{Token}
use Rattle.line_text.specs.declared.token.Token.TheVariants as tokens
use Rattle.line_text.specs.Reads.{◌>>=◌}

-- a to z
abbrev pub is_lower : ℕ → Bool
is_lower b = nat_le 97 b && nat_le b 122

-- A to Z
abbrev pub is_upper : ℕ → Bool
is_upper b = nat_le 65 b && nat_le b 90

-- 0 to 9
abbrev pub is_digit : ℕ → Bool
is_digit b = nat_le 48 b && nat_le b 57

-- letters, digits and `_`
abbrev pub is_word_byte : ℕ → Bool
is_word_byte b = is_lower b || is_upper b || is_digit b || b == 95

-- a space or a tab
abbrev pub is_blank : ℕ → Bool
is_blank b = b == 32 || b == 9

-- a run of word bytes, `=>`, or another byte
pub data Piece : Type 0 where
  Run : (bytes : List ℕ) → Piece
  Arrow : Piece
  Mark : (byte : ℕ) → Piece

-- a byte of a word before what follows it
abbrev pub onto_run : ℕ → List Piece → List Piece
onto_run b [] = Run (b ∷ []) ∷ []
onto_run b (Run bytes ∷ ps) = Run (b ∷ bytes) ∷ ps
onto_run b (Arrow ∷ ps) = Run (b ∷ []) ∷ Arrow ∷ ps
onto_run b (Mark c ∷ ps) = Run (b ∷ []) ∷ Mark c ∷ ps

-- another byte before what follows it: `=` (61) and `>` (62) are one piece
abbrev pub onto_mark : ℕ → List Piece → List Piece
onto_mark b [] = Mark b ∷ []
onto_mark b (Run bytes ∷ ps) = Mark b ∷ Run bytes ∷ ps
onto_mark b (Arrow ∷ ps) = Mark b ∷ Arrow ∷ ps
onto_mark b (Mark c ∷ ps) = if b == 61 && c == 62 then Arrow ∷ ps else Mark b ∷ Mark c ∷ ps

-- the pieces of a line
abbrev pub pieces : List ℕ → List Piece
pieces [] = []
pieces (b ∷ bs) = if is_word_byte b then onto_run b (pieces bs) else onto_mark b (pieces bs)

-- the number token of a canonical number below 2 ^ 64
abbrev pub number_token : Option ℕ → Option Token
number_token None = None
number_token (Some n) = Some (tokens.Number n)

-- a word begins with a lower-case letter and has at most 32 bytes
abbrev pub token_of_run : List ℕ → Option Token
token_of_run [] = None
token_of_run (b ∷ bs) = if is_digit b then number_token (num_of (b ∷ bs)) else (if is_lower b && nat_le (length (b ∷ bs)) 32 then Some (tokens.Word (b ∷ bs)) else None)

-- the symbols of one byte: ( ) , : * - =
abbrev pub token_of_mark : ℕ → Option Token
token_of_mark b = if b == 40 || b == 41 || b == 44 || b == 58 || b == 42 || b == 45 || b == 61 then Some (tokens.Mark b) else None

-- each piece is a token, or a blank
abbrev pub tokens_in : List Piece → Option (List Token)
tokens_in [] = Some []
tokens_in (Run bytes ∷ ps) = do
  t ← token_of_run bytes
  ts ← tokens_in ps
  Some (t ∷ ts)
tokens_in (Arrow ∷ ps) = do
  ts ← tokens_in ps
  Some (tokens.Arrow ∷ ts)
tokens_in (Mark b ∷ ps) = if is_blank b then tokens_in ps else (do
  t ← token_of_mark b
  ts ← tokens_in ps
  Some (t ∷ ts))

-- the tokens of a line
unfoldable pub tokens_of : List ℕ → Option (List Token)
tokens_of line = tokens_in (pieces line)

-- a token before what is read behind it
abbrev pub before : Option Token → Option (List Token) → Option (List Token)
before None read = read
before (Some t) read = read >>= λ ts. Some (t ∷ ts)

-- `=>` stands at the front
abbrev pub starts_arrow : List ℕ → Bool
starts_arrow [] = false
starts_arrow (b ∷ []) = false
starts_arrow (b ∷ c ∷ bs) = b == 61 && c == 62

-- the token is this word
abbrev pub is_word : List ℕ → Token → Bool
is_word expected (tokens.Word w) = bytes_eq w expected
is_word expected (tokens.Number n) = false
is_word expected (tokens.Mark b) = false
is_word expected tokens.Arrow = false

-- the line begins with the word `stop`
abbrev pub is_stop : List Token → Bool
is_stop [] = false
is_stop (t ∷ ts) = is_word (codes "stop") t

-- the greatest number at a place of a line, from 0: places 2, 3 and 4 of a stop line have their own
abbrev pub limit_at : Bool → ℕ → ℕ
limit_at stop place = if stop && (place == 2 || place == 3) then 4294967295 else (if stop && place == 4 then 255 else 1000000000000)

-- a number up to a limit, or no number
abbrev pub is_within : ℕ → Token → Bool
is_within limit (tokens.Word w) = true
is_within limit (tokens.Number n) = nat_le n limit
is_within limit (tokens.Mark b) = true
is_within limit tokens.Arrow = true

-- each number from a place on keeps the limit of its place
abbrev pub all_within : Bool → ℕ → List Token → Bool
all_within stop place [] = true
all_within stop place (t ∷ ts) = is_within (limit_at stop place) t && all_within stop (place + 1) ts

-- no number of the line is too large
unfoldable pub are_small : List Token → Bool
are_small ts = all_within (is_stop ts) 0 ts
