use Rattle.std.proofs.Common.{length, subst, ◌<◌, ◌∙◌}
use Rattle.reservation_plan.proofs.Paired.{row_next}
use Rattle.reservation_plan.proofs.planning.add_row.Goals as goal

pub loop-b-preserved : goal.loop-b-preserved
loop-b-preserved c =
    row_next c.loop-b.pairs c.push.new.self c.args.a c.loop-b.b (length c.args.spec.now.ops) (subst (λ n. c.loop-b.b < n) c.len-b-end.ensures.value c.loop-b-test.true) c.in_ok-push.ensures.ok
    ∙ c.loop-b.invariant
