use Rattle.std.proofs.Common.{length, subst, sym, ◌<◌, ◌∙◌}
use Rattle.reservation_plan.specs.Derived.{always_meets, params_of}
use Rattle.reservation_plan.proofs.Partners.{partner_next}
use Rattle.reservation_plan.proofs.reserving.partner.Goals as goal

pub loop-second-preserved : goal.loop-second-preserved
loop-second-preserved c =
    sym (partner_next (always_meets c.args.conflict.now.spec.now c.args.conflict.now.a c.args.conflict.now.b c.args.conflict.now.cases.now c.args.first) c.loop-second.second (length (params_of c.args.conflict.now.spec.now c.args.conflict.now.b))
    (subst (λ xs. c.loop-second.second < length xs) c.params_of.ensures c.loop-second-test.true) (sym c.always_meets.ensures ∙ c.if-always_meets.false))
    ∙ c.loop-second.invariant
