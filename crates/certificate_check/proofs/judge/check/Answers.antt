use Rattle.std.proofs.Common.{sym, ◌∙◌}
use Rattle.certificate_check.proofs.Unseparated.{checked_is_stable}
use Rattle.certificate_check.proofs.Verdicts.{yes_from_verdict, verdict_from_yes}
use Rattle.certificate_check.proofs.judge.check.Goals as goal

pub returns-clause-yes : goal.returns-clause-yes
returns-clause-yes c = λ says_yes. yes_from_verdict c.args.spec.now c.args.plan.now c.args.certificate.now (sym c.in_ok-verdict.ensures ∙ says_yes)

pub returns-clause-no : goal.returns-clause-no
returns-clause-no c = λ checks. c.in_ok-verdict.ensures ∙ verdict_from_yes c.args.spec.now c.args.plan.now c.args.certificate.now checks

pub returns-clause-stable : goal.returns-clause-stable
returns-clause-stable c = λ says_yes.
    checked_is_stable c.args.spec.now c.args.plan.now c.args.certificate.now c.requires.well_formed c.requires.plan_fits
    (yes_from_verdict c.args.spec.now c.args.plan.now c.args.certificate.now (sym c.in_ok-verdict.ensures ∙ says_yes))
