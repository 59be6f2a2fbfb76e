-- Which lines are a specification, and which line is refused first.
use Rattle.std.specs.Prelude.{ℕ, List, [], ◌∷◌, Option, Some, None, Result, Ok, Err}
use Rattle.line_text.specs.declared.token.Token.{Token}
use Rattle.line_text.specs.declared.token.Token.TheVariants.{Word, Number, Mark, Arrow}
use Rattle.line_text.specs.declared.cause.Cause.{Cause}
use Rattle.line_text.specs.declared.cause.Cause.TheVariants.{UnknownLine}
use Rattle.line_text.specs.Causes.{◌>>=◌}
use Rattle.line_text.specs.Texts.{line_tokens, read_lines}
use Rattle.spec_model.specs.declared.spec.Spec.{Spec}
use Rattle.spec_lines.specs.declared.line.SpecLine.{SpecLine}
use Rattle.spec_lines.specs.Forms.{spec_line}
use Rattle.spec_language.specs.declared.draft.SpecDraft.{SpecDraft}
use Rattle.spec_language.specs.Draft.{fresh, step}

-- a line that is none of a specification is unknown here
abbrev pub step_or_unknown : SpecDraft → Option SpecLine → Result SpecDraft Cause
step_or_unknown d None = Err UnknownLine
step_or_unknown d (Some line) = step d line

-- what the tokens of a line add; a line without tokens is passed over
unfoldable pub taken : SpecDraft → List Token → Result SpecDraft Cause
taken d [] = Ok d
taken d (Word w ∷ ts) = spec_line w ts >>= step_or_unknown d
taken d (Number n ∷ ts) = Err UnknownLine
taken d (Mark b ∷ ts) = Err UnknownLine
taken d (Arrow ∷ ts) = Err UnknownLine

-- what a line adds, or its first cause
unfoldable pub accept : SpecDraft → List ℕ → Result SpecDraft Cause
accept d line = line_tokens line >>= taken d

-- every specification may end anywhere
abbrev pub ends : SpecDraft → Result SpecDraft Cause
ends d = Ok d

-- the specification with its counts that these lines are, or the first refused line with its first cause
abbrev pub draft_of : List (List ℕ) → Result SpecDraft (ℕ × Cause)
draft_of lines = read_lines accept ends 1 fresh lines

-- the specification alone
abbrev pub spec_of_draft : Result SpecDraft (ℕ × Cause) → Result Spec (ℕ × Cause)
spec_of_draft (Ok d) = Ok d.spec
spec_of_draft (Err e) = Err e

-- the specification that these lines are, or the first refused line with its first cause
abbrev pub spec_of : List (List ℕ) → Result Spec (ℕ × Cause)
spec_of lines = spec_of_draft (draft_of lines)
