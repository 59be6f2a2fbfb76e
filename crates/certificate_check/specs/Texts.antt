-- What a text of a plan and a certificate is to what is read from it.
use Rattle.std.specs.Prelude.{◌≡◌, ◌<◌, ◌≤◌, ℕ, suc, true, List, [], ◌∷◌, ◌++◌, length}
use Rattle.std.specs.List.{AllByRecursion, flat_map}
use Rattle.certificate_check.specs.Checks.{AreShort, FewSteps}
use Rattle.certificate_check.specs.Fitting.{op_named}
use Rattle.certificate_check.specs.Printed.{certificate_text, word_line}
use Rattle.certificate_check.specs.Reading.{read_of}
use Rattle.certificate_check.specs.declared.certificate.CertLine.{CertLine}
use Rattle.certificate_check.specs.declared.certificate.CertLine.TheVariants.{Refuted, SepLock, SepPart}
use Rattle.certificate_check.specs.declared.certificate.Certificate.{Certificate}
use Rattle.certificate_check.specs.declared.reading.Read.{Read}
use Rattle.certificate_check.specs.declared.reading.Read.TheVariants.{Parts, Refused}
use Rattle.certificate_lines.specs.Texts.{IsSmall, StepSpelt}
use Rattle.line_text.specs.Lines.{lines_of}
use Rattle.line_text.specs.Spelling.{all_word}
use Rattle.spec_model.specs.Fits.{IsWellFormed, PlanFits}
use Rattle.spec_model.specs.Truths.{op_at}
use Rattle.spec_model.specs.declared.plan.Plan.{Plan}
use Rattle.spec_model.specs.declared.spec.Spec.{Spec}

-- ---- what is read

-- so is what was read, where lines weren't refused
abbrev pub IfParts : Read → (Plan → Certificate → Type 0) → Type 0
IfParts (Parts plan certificate) P = P plan certificate
IfParts (Refused line) P = Unit {0}

-- these lines, each with its end, are the text of a plan that fits and of a certificate
pub record IsTextOf (spec : Spec) (lines : List (List ℕ)) (plan : Plan) (certificate : Certificate) : Type 0 where
  pub plan_fits : PlanFits spec plan
  pub short : AreShort certificate.lines
  pub text : certificate_text spec plan certificate ≡ flat_map word_line lines

-- ---- what is printed

-- each operation's name is of letters, digits and `_`, and is that of no earlier one
pub record HasNames (spec : Spec) : Type 0 where
  pub words : AllByRecursion (λ o. all_word o.name ≡ true) spec.ops
  pub apart : (i : ℕ) → i < length spec.ops → op_named spec.ops (op_at spec i).name ≡ i

abbrev pub LineKeepsLimits : CertLine → Type 0
LineKeepsLimits (SepLock i) = IsSmall i
LineKeepsLimits (SepPart i) = IsSmall i
LineKeepsLimits (Refuted d) = IsSmall (length d.steps) × AllByRecursion StepSpelt d.steps

-- so does a line whose steps a number of 32 bits counts
abbrev pub KeepsIfFew : CertLine → Type 0
KeepsIfFew line = FewSteps line → LineKeepsLimits line

-- each number that stands in the text is at most 4294967295; locks, partitions and cases are numbered from 0
pub record KeepsLimits (plan : Plan) (certificate : Certificate) : Type 0 where
  pub locks : length plan.locks ≤ 4294967296
  pub parts : length plan.parts ≤ 4294967296
  pub cases : length certificate.lines ≤ 4294967296
  pub lines : AllByRecursion LineKeepsLimits certificate.lines

-- this text is read as the plan and the certificate, where the operations' names tell them apart and numbers keep their limits
abbrev pub IsReadAgain : Spec → Plan → Certificate → List ℕ → Type 0
IsReadAgain spec plan certificate text = IsWellFormed spec → HasNames spec → KeepsLimits plan certificate → read_of spec (lines_of text) ≡ Parts plan certificate

-- ---- what is refused

-- the text of this plan and certificate has these lines
pub record HasLines (spec : Spec) (plan : Plan) (certificate : Certificate) (lines : List (List ℕ)) : Type 0 where
  pub plan_fits : PlanFits spec plan
  pub limits : KeepsLimits plan certificate
  pub lines_are : lines_of (certificate_text spec plan certificate) ≡ lines

-- some text has these lines
abbrev pub AreText : Spec → List (List ℕ) → Type 0
AreText spec lines = (plan : Plan) × (certificate : Certificate) × HasLines spec plan certificate lines

-- some text begins with these lines
abbrev pub Begin : Spec → List (List ℕ) → Type 0
Begin spec lines = (rest : List (List ℕ)) × AreText spec (lines ++ rest)

-- with the next line they begin no text; where no line follows, they are none
abbrev pub EndsBadly : Spec → List (List ℕ) → List (List ℕ) → Type 0
EndsBadly spec front [] = AreText spec front → ⊥
EndsBadly spec front (line ∷ behind) = Begin spec (front ++ line ∷ []) → ⊥

-- line n is the first with which the lines begin no text, or one more than there are
pub record IsFirstRefused (spec : Spec) (lines : List (List ℕ)) (n : ℕ) : Type 0 where
  pub front : List (List ℕ)
  pub behind : List (List ℕ)
  pub lines_are : lines ≡ front ++ behind
  pub number : n ≡ suc (length front)
  pub begins : Begin spec front
  pub ends : EndsBadly spec front behind

-- so is the number, where a line was refused
abbrev pub IfRefused : Read → (ℕ → Type 0) → Type 0
IfRefused (Parts plan certificate) P = Unit {0}
IfRefused (Refused line) P = P line
