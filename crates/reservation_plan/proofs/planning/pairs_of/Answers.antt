use Rattle.std.proofs.Common.{length, subst, ◌<◌, ◌∙◌}
use Rattle.reservation_plan.proofs.Partners.{key_next}
use Rattle.reservation_plan.specs.Derived.{row_pairs}
use Rattle.reservation_plan.proofs.planning.pairs_of.Goals as goal

pub loop-a-preserved : goal.loop-a-preserved
loop-a-preserved c =
    key_next (row_pairs c.args.spec.now) c.loop-a.pairs c.add_row.new.pairs c.loop-a.a (length c.args.spec.now.ops) (subst (λ n. c.loop-a.a < n) c.len-a-end.ensures.value c.loop-a-test.true) c.in_ok-add_row.ensures
    ∙ c.loop-a.invariant
