-- What is answered to a specification that is analysed.
use Rattle.std.specs.Prelude.{◌≡◌, ◌⊎◌, ℕ, ◌<◌, ◌≤◌, Bool, List, [], ◌∷◌, ◌++◌, length, codes, decimal, Option, None}
use Rattle.std.specs.List.{find}
use Rattle.certificate_check.specs.Checks.{AreShort, Checks}
use Rattle.certificate_check.specs.Printed.{certificate_text}
use Rattle.certificate_check.specs.Texts.{KeepsLimits}
use Rattle.certificate_check.specs.declared.certificate.Certificate.{Certificate}
use Rattle.ground_clauses.specs.Cases.{touched_cases}
use Rattle.ground_clauses.specs.Counting.{case_count}
use Rattle.ground_clauses.specs.declared.case.Case.{Case}
use Rattle.rejection_text.specs.Texts.{rejection_text}
use Rattle.reservation_plan.specs.Derived.{derived_plan}
use Rattle.reservation_plan.specs.Ends.{IsRejected, IsTooHard, ends}
use Rattle.spec_model.specs.Fits.{PlanFits}
use Rattle.spec_model.specs.Stable.{IsEnough}
use Rattle.spec_model.specs.declared.spec.Spec.{Spec}
use Rattle.plan_answers.specs.declared.analysing.Analysis.{Analysis}
use Rattle.plan_answers.specs.declared.analysing.Analysis.TheVariants.{Planless, Planned}
use Rattle.plan_answers.specs.Texts.{most_cases, too_many_text}
use Rattle.reservation_plan.specs.declared.analysed.Analysed.{Analysed}

-- it has a plan: not too many cases, and none at which the analysis ends
pub record HasPlan (spec : Spec) : Type 0 where
  pub few : case_count spec ≤ most_cases
  pub goes : find (ends spec) (touched_cases spec) ≡ None

-- the derived plan fits it, this certificate of it checks, and the plan is enough: all instances that it doesn't separate are stable
pub record IsCertified (spec : Spec) (certificate : Certificate) : Type 0 where
  pub has : HasPlan spec
  pub fits : PlanFits spec (derived_plan spec)
  pub checks : Checks spec (derived_plan spec) certificate
  pub enough : IsEnough spec (derived_plan spec)

-- the derived plan with such a certificate, neither of them long
pub record IsAnalysed (spec : Spec) (analysed : Analysed) : Type 0 where
  pub plan : analysed.plan ≡ derived_plan spec
  pub certified : IsCertified spec analysed.certificate
  pub short : AreShort analysed.certificate.lines
  pub few_locks : length analysed.plan.locks ≤ 4096
  pub few_parts : length analysed.plan.parts ≤ 4096

-- the text of the derived plan and such a certificate, whose numbers a check reads
pub record IsPlanned (spec : Spec) (text : List ℕ) : Type 0 where
  pub certificate : Certificate
  pub certified : IsCertified spec certificate
  pub limits : KeepsLimits (derived_plan spec) certificate
  pub written : text ≡ certificate_text spec (derived_plan spec) certificate

abbrev pub hard_text : ℕ → List ℕ
hard_text n = codes "too hard " ++ decimal n ++ codes " variables\n"

-- too many cases, touched or not
pub record IsTooMany (spec : Spec) (text : List ℕ) : Type 0 where
  pub many : most_cases < case_count spec
  pub written : text ≡ too_many_text (case_count spec)

-- the first case at which the analysis ends is a conflict of operations that are declared free
pub record IsRejection (spec : Spec) (text : List ℕ) : Type 0 where
  pub few : case_count spec ≤ most_cases
  pub case : Case
  pub model : Option (List Bool)
  pub rejected : IsRejected spec (touched_cases spec) case model
  pub written : text ≡ rejection_text spec case model

-- or it has a query of too many variables
pub record IsHard (spec : Spec) (text : List ℕ) : Type 0 where
  pub few : case_count spec ≤ most_cases
  pub variables : ℕ
  pub hard : IsTooHard spec (touched_cases spec) variables
  pub written : text ≡ hard_text variables

-- what is answered where there is no plan, whichever command wants one
abbrev pub IsPlanless : Spec → ℕ → List ℕ → Type 0
IsPlanless spec status text =
    ((status ≡ 7) × IsTooMany spec text)
    ⊎ ((status ≡ 1) × IsRejection spec text)
    ⊎ ((status ≡ 8) × IsHard spec text)

-- a plan, or the answer where there is none
abbrev pub IsAnalysis : Spec → Analysis → Type 0
IsAnalysis spec (Planned analysed) = IsAnalysed spec analysed
IsAnalysis spec (Planless answer) = IsPlanless spec answer.status answer.text

-- what is answered to one who wants to see the plan
abbrev pub IsAnswer : Spec → ℕ → List ℕ → Type 0
IsAnswer spec status text = ((status ≡ 0) × IsPlanned spec text) ⊎ IsPlanless spec status text
