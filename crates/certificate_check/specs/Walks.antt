-- Checking lines against cases, one after the other.
use Rattle.std.specs.Prelude.{◌≡◌, ◌≤◌, ◌-◌, ℕ, if◌then◌else◌, eqb, length, drop, List, ◌++◌, flat_map}
use Rattle.certificate_check.specs.declared.judge.Walk.TheVariants.{Fails, Goes}
use Rattle.certificate_check.specs.Checks.{verdict_from}
use Rattle.certificate_check.specs.declared.certificate.CertLine.{CertLine}
use Rattle.certificate_check.specs.declared.judge.Walk.{Walk}
use Rattle.certificate_check.specs.declared.verdict.Verdict.{Verdict}
use Rattle.certificate_check.specs.declared.verdict.Verdict.TheVariants.{No, Yes}
use Rattle.certificate_check.specs.declared.verdict.Why.TheVariants.{Extra}
use Rattle.ground_clauses.specs.Cases.{pair_cases, upto_from}
use Rattle.ground_clauses.specs.declared.case.Case.{Case}
use Rattle.spec_model.specs.declared.plan.Plan.{Plan}
use Rattle.spec_model.specs.declared.spec.Spec.{Spec}

-- a failure stays, and else the other cases are checked from the line that was reached
abbrev pub after_walk : Spec → Plan → List CertLine → Walk → List Case → Verdict
after_walk spec plan lines (Fails case why) rest = No case why
after_walk spec plan lines (Goes at) rest = verdict_from spec plan at rest (drop at lines)

abbrev pub IsWithin : List CertLine → Walk → Type 0
IsWithin lines (Fails case why) = Unit {0}
IsWithin lines (Goes at) = at ≤ length lines

-- checking these cases from a line on comes to this
pub record Walks (spec : Spec) (plan : Plan) (lines : List CertLine) (at : ℕ) (cases : List Case) (walk : Walk) : Type 0 where
  pub leads : (rest : List Case) → verdict_from spec plan at (cases ++ rest) (drop at lines) ≡ after_walk spec plan lines walk rest
  pub within : IsWithin lines walk

-- the touched cases of an operation and those from b on
abbrev pub row_cases : Spec → ℕ → ℕ → List Case
row_cases spec a b = flat_map (pair_cases spec a) (upto_from b (length spec.ops - b))

-- the touched cases of the operations from a on
abbrev pub cases_from : Spec → ℕ → List Case
cases_from spec a = flat_map (λ x. row_cases spec x x) (upto_from a (length spec.ops - a))

abbrev pub end_verdict : ℕ → ℕ → Verdict
end_verdict lines at = if eqb at lines then Yes else No at Extra

-- the verdict after a walk over all cases, of a certificate of so many lines
abbrev pub walk_verdict : ℕ → Walk → Verdict
walk_verdict lines (Fails case why) = No case why
walk_verdict lines (Goes at) = end_verdict lines at
