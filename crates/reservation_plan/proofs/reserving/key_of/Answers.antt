use Rattle.std.proofs.Common.{length, subst, ◌<◌, ◌∙◌}
use Rattle.reservation_plan.specs.Derived.{key_at, params_of}
use Rattle.reservation_plan.proofs.Partners.{key_next}
use Rattle.reservation_plan.proofs.reserving.key_of.Goals as goal

pub loop-first-preserved : goal.loop-first-preserved
loop-first-preserved c =
    key_next (key_at c.args.conflict.now.spec.now c.args.conflict.now.a c.args.conflict.now.b c.args.conflict.now.cases.now) c.loop-first.key c.add_place.new.key c.loop-first.first (length (params_of c.args.conflict.now.spec.now c.args.conflict.now.a))
    (subst (λ xs. c.loop-first.first < length xs) c.params_of.ensures c.loop-first-test.true) c.in_ok-add_place.ensures
    ∙ c.loop-first.invariant
