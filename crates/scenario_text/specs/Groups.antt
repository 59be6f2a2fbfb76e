-- Groups of words, and the first line that holds one of them.
use Rattle.std.specs.Prelude.{◌≡◌, ℕ, ◌+◌, Bool, false, if◌then◌else◌, List, [], ◌∷◌, codes, Option, Some, None, Result, Ok, Err}
use Rattle.std.specs.List.{list_any}
use Rattle.line_text.specs.declared.cause.Cause.{Cause}
use Rattle.line_text.specs.declared.token.Token.{Token}
use Rattle.line_text.specs.Texts.{line_tokens}
use Rattle.line_text.specs.Words.{is_among}
use Rattle.scenario_text.specs.declared.group.Group.{Group}
use Rattle.scenario_text.specs.declared.group.Group.TheVariants.{Schedule, Clients}

abbrev pub schedule_words : List (List ℕ)
schedule_words = codes "do" ∷ codes "send" ∷ codes "take" ∷ codes "crash" ∷ codes "recover" ∷ []

abbrev pub client_words : List (List ℕ)
client_words = codes "turns" ∷ codes "client" ∷ codes "ask" ∷ []

-- the words of a group
abbrev pub words_of : Group → List (List ℕ)
words_of Schedule = schedule_words
words_of Clients = client_words

-- a line of tokens
abbrev pub HasTokens : List ℕ → Type 0
HasTokens line = (ts : List Token) × (line_tokens line ≡ Ok ts)

-- one of a line's tokens is one of these words
abbrev pub any_among : List (List ℕ) → Result (List Token) Cause → Bool
any_among words (Ok ts) = list_any (is_among words) ts
any_among words (Err cause) = false

-- a line holds one of these words outside its comment
unfoldable pub holds : List (List ℕ) → List ℕ → Bool
holds words line = any_among words (line_tokens line)

-- the first of these lines, counted from this number, that holds one of the words
abbrev pub first_from : List (List ℕ) → ℕ → List (List ℕ) → Option ℕ
first_from words number [] = None
first_from words number (line ∷ lines) = if holds words line then Some number else first_from words (number + 1) lines

-- the first line, from 1, that holds one of the words
abbrev pub first_line : List (List ℕ) → List (List ℕ) → Option ℕ
first_line words lines = first_from words 1 lines
