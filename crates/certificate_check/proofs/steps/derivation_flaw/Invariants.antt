use Rattle.std.proofs.Common.{◌≡◌}
use Rattle.certificate_check.specs.Checks.{first_wrong}
use Rattle.certificate_check.proofs.Hints.{wrong_from}
use Rattle.certificate_check.proofs.steps.derivation_flaw.Given as goal

abbrev pub invariant-loop-place : goal.invariant-loop-place
invariant-loop-place l = wrong_from l.clauses l.steps l.place ≡ first_wrong 0 l.clauses l.steps
