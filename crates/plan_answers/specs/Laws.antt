-- What is printed of an analysis is accepted by a check.
use Rattle.std.specs.Prelude.{ℕ, List}
use Rattle.certificate_check.specs.Texts.{HasNames}
use Rattle.line_text.specs.Lines.{lines_of}
use Rattle.plan_answers.specs.Analysing.{IsPlanned}
use Rattle.plan_answers.specs.Checking.{HasYes}
use Rattle.spec_model.specs.Fits.{IsWellFormed}
use Rattle.spec_model.specs.declared.spec.Spec.{Spec}

-- The lines that an analysis prints are a plan and a certificate that check.
abbrev pub PlannedIsChecked : Type 0
PlannedIsChecked = (spec : Spec) (text : List ℕ) → IsWellFormed spec → HasNames spec → IsPlanned spec text → HasYes spec (lines_of text)
