-- Lines of a document that are taken where they stand, without a list of their tokens.
use Rattle.std.specs.Prelude.{◌≡◌, ℕ, List, ◌∷◌, Bool, true, false, Some, Result, Ok, Err, codes}
use Rattle.std.specs.Str.{bytes_eq}
use Rattle.line_text.specs.declared.token.Token.{Token}
use Rattle.line_text.specs.declared.token.Token.TheVariants.{Word}
use Rattle.line_text.specs.declared.cause.Cause.{Cause}
use Rattle.line_text.specs.declared.cause.LineError.{LineError}
use Rattle.line_text.specs.declared.cause.LineError.TheVariants as errors
use Rattle.line_text.specs.Causes.{Fails}
use Rattle.line_text.specs.Tokens.{tokens_of}
use Rattle.scenario_lines.specs.InPlace.{are_modest}
use Rattle.scenario_text.specs.declared.draft.Draft.{Draft}
use Rattle.scenario_text.specs.Reading.{accept, taken}

-- the bytes behind a line word are tokens which keep the limits, and the line gives this answer
pub record IsAnswered (d : Draft) (word bytes : List ℕ) (answer : Result Draft Cause) : Type 0 where
  pub tokens : List Token
  pub read : tokens_of bytes ≡ Some tokens
  pub modest : are_modest tokens ≡ true
  pub no_stop : bytes_eq word (codes "stop") ≡ false
  pub gives : taken d (Word word ∷ tokens) ≡ answer

-- the line with this word was taken or refused, or left alone
abbrev pub IsTaken : Draft → List ℕ → List ℕ → Result Bool LineError → Draft → Type 0
IsTaken d word bytes (Ok true) e = IsAnswered d word bytes (Ok e)
IsTaken d word bytes (Ok false) e = e ≡ d
IsTaken d word bytes (Err errors.Memory) e = Unit {0}
IsTaken d word bytes (Err (errors.Refused cause)) e = IsAnswered d word bytes (Err cause)

-- the line was accepted or refused, or left alone
abbrev pub IsAccepted : Draft → List ℕ → Result Bool LineError → Draft → Type 0
IsAccepted d line (Ok true) e = accept d line ≡ Ok e
IsAccepted d line (Ok false) e = e ≡ d
IsAccepted d line (Err error) e = Fails error (accept d line)
