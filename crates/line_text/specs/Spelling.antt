-- The text of tokens and blanks.
use Rattle.std.specs.Prelude.{◌≡◌, ℕ, ◌<◌, ◌^◌, Bool, true, false, List, [], ◌∷◌, ◌++◌, Some, ◌&&◌, decimal}
use Rattle.line_text.specs.declared.token.Token.{Token}
use Rattle.line_text.specs.declared.token.Token.TheVariants.{Word, Number, Mark, Arrow}
use Rattle.line_text.specs.Tokens.{token_of_run, token_of_mark, is_word_byte}

-- a token, or a space before the next one
pub data Part : Type 0 where
  One : (token : Token) → Part
  Gap : Part

-- how a token is written
abbrev pub token_text : Token → List ℕ
token_text (Word w) = w
token_text (Number n) = decimal n
token_text (Mark b) = b ∷ []
token_text Arrow = 61 ∷ 62 ∷ []

-- how parts are written, one after the other
abbrev pub spell : List Part → List ℕ
spell [] = []
spell (One t ∷ ps) = token_text t ++ spell ps
spell (Gap ∷ ps) = 32 ∷ spell ps

-- the tokens alone
abbrev pub tokens_in_parts : List Part → List Token
tokens_in_parts [] = []
tokens_in_parts (One t ∷ ps) = t ∷ tokens_in_parts ps
tokens_in_parts (Gap ∷ ps) = tokens_in_parts ps

-- all bytes are of words
abbrev pub all_word : List ℕ → Bool
all_word [] = true
all_word (b ∷ bs) = is_word_byte b && all_word bs

-- it is a token that a text can spell
abbrev pub IsSpelt : Token → Type 0
IsSpelt (Word w) = (all_word w ≡ true) × (token_of_run w ≡ Some (Word w))
IsSpelt (Number n) = n < 2 ^ 64
IsSpelt (Mark b) = token_of_mark b ≡ Some (Mark b)
IsSpelt Arrow = Unit {0}

-- no word or number begins here
abbrev pub begins_apart : List Part → Bool
begins_apart [] = true
begins_apart (One (Word w) ∷ ps) = false
begins_apart (One (Number n) ∷ ps) = false
begins_apart (One (Mark b) ∷ ps) = true
begins_apart (One Arrow ∷ ps) = true
begins_apart (Gap ∷ ps) = true

-- behind a word or number stands no other without a space
abbrev pub is_apart : List Part → Bool
is_apart [] = true
is_apart (One (Word w) ∷ ps) = begins_apart ps && is_apart ps
is_apart (One (Number n) ∷ ps) = begins_apart ps && is_apart ps
is_apart (One (Mark b) ∷ ps) = is_apart ps
is_apart (One Arrow ∷ ps) = is_apart ps
is_apart (Gap ∷ ps) = is_apart ps

-- each token can be spelt
abbrev pub AreSpelt : List Part → Type 0
AreSpelt [] = Unit {0}
AreSpelt (One t ∷ ps) = IsSpelt t × AreSpelt ps
AreSpelt (Gap ∷ ps) = AreSpelt ps
