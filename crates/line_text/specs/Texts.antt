-- What all lines of a text give, or the first refused line with its first cause.
use Rattle.std.specs.Prelude.{◌≡◌, ℕ, ◌+◌, List, [], ◌∷◌, Result, Ok, Err}
use Rattle.line_text.specs.declared.token.Token.{Token}
use Rattle.line_text.specs.declared.cause.Cause.{Cause}
use Rattle.line_text.specs.declared.cause.Cause.TheVariants.{NotAscii, BadToken}
use Rattle.line_text.specs.declared.cause.LineError.{LineError}
use Rattle.line_text.specs.declared.cause.LineError.TheVariants as line_errors
use Rattle.line_text.specs.declared.cause.ParseError.{ParseError}
use Rattle.line_text.specs.declared.cause.ParseError.TheVariants as errors
use Rattle.line_text.specs.Causes.{◌>>=◌, guard, caused}
use Rattle.line_text.specs.Bytes.{all_plain, before_comment}
use Rattle.line_text.specs.Tokens.{tokens_of, are_small}

-- the tokens of a line before its comment
unfoldable pub line_tokens : List ℕ → Result (List Token) Cause
line_tokens line = do
  plain ← guard (all_plain line) NotAscii
  tokens ← caused (tokens_of (before_comment line)) BadToken
  small ← guard (are_small tokens) BadToken
  Ok tokens

-- a cause, with the number of its line
abbrev pub numbered : {D : Type 0} → ℕ → Result D Cause → Result D (ℕ × Cause)
numbered number (Ok d) = Ok d
numbered number (Err cause) = Err (number, cause)

-- what follows a line that was taken
abbrev pub go_on : {D : Type 0} → ℕ → Result D Cause → (D → Result D (ℕ × Cause)) → Result D (ℕ × Cause)
go_on number (Err cause) next = Err (number, cause)
go_on number (Ok d) next = next d

-- line after line is taken, counted from this number; at the end it has to be whole
unfoldable pub read_lines : {D : Type 0} → (D → List ℕ → Result D Cause) → (D → Result D Cause) → ℕ → D → List (List ℕ) → Result D (ℕ × Cause)
read_lines takes ends number d [] = numbered number (ends d)
read_lines takes ends number d (line ∷ lines) = go_on number (takes d line) (λ e. read_lines takes ends (number + 1) e lines)

-- the value, or the first refused line and its first cause, unless memory ran out
abbrev pub GivesText : {X Y : Type 0} → (X → Y) → Result X ParseError → Result Y (ℕ × Cause) → Type 0
GivesText view (Ok d) read = read ≡ Ok (view d)
GivesText view (Err errors.Memory) read = Unit {0}
GivesText view (Err (errors.BadLine line cause)) read = read ≡ Err (line, cause)

-- what a line's refusal is with its number
abbrev pub at_line : ℕ → LineError → ParseError
at_line line line_errors.Memory = errors.Memory
at_line line (line_errors.Refused cause) = errors.BadLine line cause
