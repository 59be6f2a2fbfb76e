use Rattle.std.proofs.Common.{sym, ◌∙◌}
use Rattle.certificate_check.proofs.Rests.{many_left}
use Rattle.certificate_check.proofs.steps.rest_of.Goals as goal

pub returns-in_default : goal.returns-in_default
returns-in_default c =
    sym (many_left c.args.falses.now c.args.clause.now c.loop-lit.lit-index _ c.loop-lit-test.true
    (λ none. c.in_default.not-Nothing (c.loop-lit.invariant ∙ none))
    (sym c.has.ensures ∙ c.if-not-has.true))
