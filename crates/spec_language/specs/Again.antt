-- The lines that say a specification give it again.
use Rattle.std.specs.Prelude.{◌≡◌, List, [], ◌∷◌, Result, Ok, ℕ}
use Rattle.line_text.specs.declared.cause.Cause.{Cause}
use Rattle.line_text.specs.Causes.{◌>>=◌}
use Rattle.spec_lines.specs.declared.line.SpecLine.{SpecLine}
use Rattle.spec_language.specs.declared.draft.SpecDraft.{SpecDraft}
use Rattle.spec_language.specs.Draft.{step, fresh}
use Rattle.spec_model.specs.declared.spec.Spec.{Spec}
use Rattle.line_text.specs.Lines.{lines_of}
use Rattle.spec_language.specs.Reading.{draft_of, spec_of}
use Rattle.spec_language.specs.Saying.{spec_lines}

-- what lines add, one after the other, or the first cause
abbrev pub steps : SpecDraft → List SpecLine → Result SpecDraft Cause
steps d [] = Ok d
steps d (line ∷ lines) = step d line >>= λ e. steps e lines

-- the lines that say a specification which was read are taken, and give it again
abbrev pub IsSaidAgain : Type 0
IsSaidAgain = (texts : List (List ℕ)) (d : SpecDraft) → draft_of texts ≡ Ok d → steps fresh (spec_lines d.spec) ≡ Ok d

-- where some lines are the specification, the lines of this text are that specification again
abbrev pub IsReadAgain : Spec → List ℕ → Type 0
IsReadAgain spec text = (lines : List (List ℕ)) → spec_of lines ≡ Ok spec → spec_of (lines_of text) ≡ Ok spec
