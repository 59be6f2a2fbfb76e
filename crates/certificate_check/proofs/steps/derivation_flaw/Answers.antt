use Rattle.std.proofs.Common.{sym, ◌∙◌}
use Rattle.certificate_check.proofs.Hints.{goes_on}
use Rattle.certificate_check.proofs.steps.derivation_flaw.Goals as goal

pub loop-place-preserved : goal.loop-place-preserved
loop-place-preserved c =
    sym (goes_on c.args.clauses.now c.args.steps.now c.loop-place.place c.split_at.result.0.now c.index-steps-place.result c.in_ok-is_right.field-0 c.loop-place-test.true
    c.split_at.ensures.front c.index-steps-place.is c.in_ok-is_right.ensures c.if-not-branch.false)
    ∙ c.loop-place.invariant
