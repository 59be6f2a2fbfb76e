-- What a certificate that checks shows of instances.
use Rattle.std.specs.Prelude.{◌≡◌, ◌↔◌}
use Rattle.certificate_check.specs.Checks.{Checks, verdict_of}
use Rattle.certificate_check.specs.Printed.{certificate_text}
use Rattle.certificate_check.specs.Texts.{IsReadAgain}
use Rattle.certificate_check.specs.declared.certificate.Certificate.{Certificate}
use Rattle.certificate_check.specs.declared.verdict.Verdict.TheVariants.{Yes}
use Rattle.spec_model.specs.Fits.{InstFits, IsWellFormed, PlanFits}
use Rattle.spec_model.specs.Separated.{Separates}
use Rattle.spec_model.specs.Stable.{IsStable}
use Rattle.spec_model.specs.declared.instance.Inst.{Inst}
use Rattle.spec_model.specs.declared.plan.Plan.{Plan}
use Rattle.spec_model.specs.declared.spec.Spec.{Spec}

-- Where a certificate checks, every two instances that the plan doesn't separate are stable.
abbrev pub CheckedIsStable : Type 0
CheckedIsStable = (spec : Spec) (plan : Plan) (certificate : Certificate)
    → IsWellFormed spec → PlanFits spec plan → Checks spec plan certificate
    → (e o : Inst) → InstFits spec e → InstFits spec o → (Separates spec plan e o → ⊥) → IsStable spec e o

-- The verdict is Yes exactly where the certificate checks.
abbrev pub YesChecks : Type 0
YesChecks = (spec : Spec) (plan : Plan) (certificate : Certificate) → (verdict_of spec plan certificate ≡ Yes) ↔ Checks spec plan certificate

-- The text of a plan that fits and of a certificate is read as them again.
abbrev pub TextIsReadAgain : Type 0
TextIsReadAgain = (spec : Spec) (plan : Plan) (certificate : Certificate) → PlanFits spec plan → IsReadAgain spec plan certificate (certificate_text spec plan certificate)
