-- Which bytes are a document, and which line is refused first.
use Rattle.std.specs.Prelude.{◌≡◌, ℕ, List, [], ◌∷◌, Option, Some, None, Result, Ok, Err}
use Rattle.line_text.specs.declared.token.Token.{Token}
use Rattle.line_text.specs.declared.token.Token.TheVariants.{Word, Number, Mark, Arrow}
use Rattle.line_text.specs.declared.cause.Cause.{Cause}
use Rattle.line_text.specs.declared.cause.Cause.TheVariants.{UnknownLine}
use Rattle.line_text.specs.Causes.{◌>>=◌}
use Rattle.line_text.specs.Lines.{lines_of}
use Rattle.line_text.specs.Texts.{line_tokens, read_lines}
use Rattle.spec_lines.specs.declared.line.SpecLine.{SpecLine}
use Rattle.spec_lines.specs.Forms.{spec_line}
use Rattle.scenario_lines.specs.declared.line.RunLine.{RunLine}
use Rattle.scenario_lines.specs.Forms.{run_line}
use Rattle.scenario_text.specs.declared.document.Document.{Document}
use Rattle.scenario_text.specs.declared.draft.Draft.{Draft}
use Rattle.scenario_text.specs.Draft.{fresh, take_spec, run_step, ends, document_from}

-- a line that is none of a run either is unknown
abbrev pub run_or_unknown : Draft → Option RunLine → Result Draft Cause
run_or_unknown d None = Err UnknownLine
run_or_unknown d (Some line) = run_step d line

-- what a line that isn't of the specification adds
abbrev pub taken_run : Draft → List ℕ → List Token → Result Draft Cause
taken_run d w ts = run_line w ts >>= run_or_unknown d

-- a line of the specification, or else of the run
abbrev pub spec_or_run : Draft → List ℕ → List Token → Option SpecLine → Result Draft Cause
spec_or_run d w ts None = taken_run d w ts
spec_or_run d w ts (Some line) = take_spec d line

-- what the tokens of a line add; a line without tokens is passed over
unfoldable pub taken : Draft → List Token → Result Draft Cause
taken d [] = Ok d
taken d (Word w ∷ ts) = spec_line w ts >>= spec_or_run d w ts
taken d (Number n ∷ ts) = Err UnknownLine
taken d (Mark b ∷ ts) = Err UnknownLine
taken d (Arrow ∷ ts) = Err UnknownLine

-- what a line adds, or its first cause
unfoldable pub accept : Draft → List ℕ → Result Draft Cause
accept d line = line_tokens line >>= taken d

-- the document with its counts that these lines are, or the first refused line with its first cause
abbrev pub draft_of : List (List ℕ) → Result Draft (ℕ × Cause)
draft_of lines = read_lines accept ends 1 fresh lines

-- the document alone
abbrev pub document_of_draft : Result Draft (ℕ × Cause) → Result Document (ℕ × Cause)
document_of_draft (Ok d) = Ok (document_from d)
document_of_draft (Err e) = Err e

-- the document that these bytes are, or the first refused line with its first cause
abbrev pub document_of : List ℕ → Result Document (ℕ × Cause)
document_of bytes = document_of_draft (draft_of (lines_of bytes))

-- these bytes are a document
abbrev pub IsDocument : List ℕ → Type 0
IsDocument bytes = (d : Document) × (document_of bytes ≡ Ok d)
