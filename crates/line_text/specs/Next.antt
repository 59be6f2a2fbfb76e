-- The token that stands next in a line.
use Rattle.std.specs.Prelude.{◌≡◌, ℕ, List, Some, Ok, Bool, true, ◌==◌, ◌&&◌, not}
use Rattle.line_text.specs.declared.token.Token.{Token}
use Rattle.line_text.specs.Bytes.{is_plain}
use Rattle.line_text.specs.Tokens.{token_of_run, tokens_of, before, are_small}
use Rattle.line_text.specs.Texts.{line_tokens}

-- the tokens are this one and those of the bytes behind it
abbrev pub IsNext : Token → List ℕ → List ℕ → Type 0
IsNext t bytes behind = tokens_of bytes ≡ before (Some t) (tokens_of behind)

-- the token of this run, if it is one, stands next
abbrev pub IsNextRun : List ℕ → List ℕ → List ℕ → Type 0
IsNextRun run bytes behind = (t : Token) → token_of_run run ≡ Some t → IsNext t bytes behind

-- it may stand in a line, and begins no comment
abbrev pub is_neat : ℕ → Bool
is_neat b = is_plain b && not (b == 35)

-- where the bytes are tokens and their numbers keep the limits, these are the tokens of the line
abbrev pub IsLine : List ℕ → Type 0
IsLine bytes = (ts : List Token) → tokens_of bytes ≡ Some ts → are_small ts ≡ true → line_tokens bytes ≡ Ok ts
