-- What is answered to a plan and a certificate that were written down.
use Rattle.std.specs.Prelude.{◌≡◌, ◌⊎◌, ℕ, ◌+◌, ◌-◌, ◌<◌, ◌≤◌, List, length, take, sum_by, codes}
use Rattle.certificate_check.specs.Checks.{Checks, verdict_of}
use Rattle.certificate_check.specs.Reading.{read_of}
use Rattle.certificate_check.specs.declared.certificate.CertLine.{CertLine}
use Rattle.certificate_check.specs.declared.certificate.CertLine.TheVariants.{Refuted, SepLock, SepPart}
use Rattle.certificate_check.specs.declared.certificate.Certificate.{Certificate}
use Rattle.certificate_check.specs.declared.reading.Read.TheVariants as reads
use Rattle.certificate_check.specs.declared.verdict.Verdict.TheVariants as verdicts
use Rattle.certificate_check.specs.declared.verdict.Why.{Why}
use Rattle.certificate_check.specs.declared.verdict.Why.TheVariants.{BadStep, Extra, Missing, NotEmpty, NotSeparated}
use Rattle.ground_clauses.specs.Counting.{case_count}
use Rattle.spec_model.specs.Stable.{IsEnough}
use Rattle.spec_model.specs.declared.plan.Plan.{Plan}
use Rattle.spec_model.specs.declared.spec.Spec.{Spec}
use Rattle.plan_answers.specs.Texts.{counted_text, most_cases, too_many_text}

-- ---- lines, counted from the line `plan`

-- a case has its own line, and one for each step
abbrev pub line_count : CertLine → ℕ
line_count (SepLock i) = 1
line_count (SepPart i) = 1
line_count (Refuted d) = 1 + length d.steps

-- behind `plan`, the locks, the partitions, `certificate` and the cases before it
abbrev pub case_line : Plan → Certificate → ℕ → ℕ
case_line plan certificate case = length plan.locks + length plan.parts + 3 + sum_by line_count (take case certificate.lines)

-- the line before that of the next case
abbrev pub last_line : Plan → Certificate → ℕ → ℕ
last_line plan certificate case = case_line plan certificate (case + 1) - 1

-- the case's line, or that of the step that isn't right; where just the end of a derivation is wrong, its last line
abbrev pub failing_line : Plan → Certificate → ℕ → Why → ℕ
failing_line plan certificate case Missing = case_line plan certificate case
failing_line plan certificate case Extra = case_line plan certificate case
failing_line plan certificate case NotSeparated = case_line plan certificate case
failing_line plan certificate case (BadStep step) = case_line plan certificate case + step + 1
failing_line plan certificate case NotEmpty = last_line plan certificate case

-- ---- answers

abbrev pub refused_text : ℕ → List ℕ
refused_text line = counted_text (codes "certificate refused at line ") line

-- they check, and the plan is enough: all instances that it doesn't separate are stable
pub record IsYes (spec : Spec) (plan : Plan) (certificate : Certificate) (status : ℕ) (text : List ℕ) : Type 0 where
  pub status_is : status ≡ 0
  pub text_is : text ≡ codes "certificate yes\n"
  pub checks : Checks spec plan certificate
  pub enough : IsEnough spec plan

-- a line is refused
pub record IsRefusal (line status : ℕ) (text : List ℕ) : Type 0 where
  pub status_is : status ≡ 1
  pub text_is : text ≡ refused_text line

-- by the verdict, with so many lines before them
abbrev pub IsJudged : Spec → ℕ → Plan → Certificate → ℕ → List ℕ → Type 0
IsJudged spec before plan certificate status text =
    IsYes spec plan certificate status text
    ⊎ ((case : ℕ) × (why : Why) × (verdict_of spec plan certificate ≡ verdicts.No case why) × IsRefusal (before + failing_line plan certificate case why) status text)

-- the lines are a plan and a certificate, or one of them is refused
abbrev pub IsRead : Spec → ℕ → List (List ℕ) → ℕ → List ℕ → Type 0
IsRead spec before lines status text =
    ((plan : Plan) × (certificate : Certificate) × (read_of spec lines ≡ reads.Parts plan certificate) × IsJudged spec before plan certificate status text)
    ⊎ ((line : ℕ) × (read_of spec lines ≡ reads.Refused line) × IsRefusal (before + line) status text)

-- the answer to these lines, with so many before them
abbrev pub IsAnswer : Spec → ℕ → List (List ℕ) → ℕ → List ℕ → Type 0
IsAnswer spec before lines status text =
    ((status ≡ 7) × (most_cases < case_count spec) × (text ≡ too_many_text (case_count spec)))
    ⊎ ((case_count spec ≤ most_cases) × IsRead spec before lines status text)

-- not too many cases, and these lines are a plan and a certificate that check
pub record HasYes (spec : Spec) (lines : List (List ℕ)) : Type 0 where
  pub few : case_count spec ≤ most_cases
  pub plan : Plan
  pub certificate : Certificate
  pub read : read_of spec lines ≡ reads.Parts plan certificate
  pub checks : Checks spec plan certificate
