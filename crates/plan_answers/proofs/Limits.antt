-- A certificate of few lines and steps keeps the limits of its text.
use Rattle.std.proofs.Common.{ℕ, ◌≤◌, List, [], ◌∷◌, length, arith}
use Rattle.std.specs.List.{AllByRecursion}
use Rattle.certificate_check.specs.Checks.{AreShort, FewSteps}
use Rattle.certificate_check.specs.Texts.{KeepsIfFew, KeepsLimits, LineKeepsLimits}
use Rattle.certificate_check.specs.declared.certificate.CertLine.{CertLine}
use Rattle.certificate_check.specs.declared.certificate.Certificate.{Certificate}
use Rattle.spec_model.specs.declared.plan.Plan.{Plan}

lines_keep : (lines : List CertLine) → AllByRecursion FewSteps lines → AllByRecursion KeepsIfFew lines → AllByRecursion LineKeepsLimits lines
lines_keep [] few keeps = tt
lines_keep (line ∷ lines) few keeps = (keeps.0 few.0, lines_keep lines few.1 keeps.1)

pub keeps_limits : (plan : Plan) (certificate : Certificate) → length plan.locks ≤ 4096 → length plan.parts ≤ 4096 → AreShort certificate.lines → AllByRecursion KeepsIfFew certificate.lines → KeepsLimits plan certificate
keeps_limits plan certificate locks parts short keeps = record {
  locks = omega (arith, locks);
  parts = omega (arith, parts);
  cases = omega (arith, short.few_lines);
  lines = lines_keep certificate.lines short.few_steps keeps;
}
