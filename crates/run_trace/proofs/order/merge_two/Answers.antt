use Rattle.std.proofs.Common.{◌⊎◌, inl, inr, ◌≤◌, length, arith}
use Rattle.run_trace.proofs.Joined.{took_left, took_right, joined_from}
use Rattle.run_trace.proofs.order.merge_two.Goals as goal
use Rattle.run_trace.proofs.order.merge_two.Goals.{then-joining-test+else-from_b-b, else-joining-test}

pub joining-preserved-then-comes_first : goal.joining-preserved-then-comes_first
joining-preserved-then-comes_first c = record {
  joins = rw c.in_ok-push.ensures.items (took_left _ _ c.joining.out.items c.args.a.now c.args.b.now c.joining.from_a c.joining.from_b c.index-a-from_a.result c.index-b-from_b.result c.joining-test.true c.if-from_b-b.true c.index-a-from_a.is c.index-b-from_b.is c.if-comes_first.ensures c.joining.invariant.joins);
  in_a = omega (arith, c.joining-test.true);
  in_b = c.joining.invariant.in_b;
}

pub joining-preserved : goal.joining-preserved
joining-preserved c = record {
  joins = rw c.in_ok-push-2.ensures.items (took_right _ _ c.joining.out.items c.args.a.now c.args.b.now c.joining.from_a c.joining.from_b c.index-a-from_a.result c.index-b-from_b.result c.joining-test.true c.if-from_b-b.true c.index-a-from_a.is c.index-b-from_b.is c.if-comes_first.ensures c.joining.invariant.joins);
  in_a = c.joining.invariant.in_a;
  in_b = omega (arith, c.if-from_b-b.true);
}

pub returns-clause-merged : goal.returns-clause-merged
returns-clause-merged c =
    let end : (length c.args.a.now ≤ c.joining.from_a) ⊎ (length c.args.b.now ≤ c.joining.from_b) =
    elim c.joining-test.branch [
      | then-joining-test+else-from_b-b w ↦ inr (omega (arith, w.if-from_b-b.false))
      | else-joining-test w ↦ inl (omega (arith, w.joining-test.false))
    ] in
    rw (c.in_ok-extend_from_slice-2.ensures.items, c.in_ok-extend_from_slice.ensures.items, c.split_at-2.ensures.back, c.split_at.ensures.back) (joined_from _ _ c.joining.out.items c.args.a.now c.args.b.now c.joining.from_a c.joining.from_b end c.joining.invariant.joins).0

pub returns-clause-in_order : goal.returns-clause-in_order
returns-clause-in_order c =
    let end : (length c.args.a.now ≤ c.joining.from_a) ⊎ (length c.args.b.now ≤ c.joining.from_b) =
    elim c.joining-test.branch [
      | then-joining-test+else-from_b-b w ↦ inr (omega (arith, w.if-from_b-b.false))
      | else-joining-test w ↦ inl (omega (arith, w.joining-test.false))
    ] in
    rw (c.in_ok-extend_from_slice-2.ensures.items, c.in_ok-extend_from_slice.ensures.items, c.split_at-2.ensures.back, c.split_at.ensures.back) (joined_from _ _ c.joining.out.items c.args.a.now c.args.b.now c.joining.from_a c.joining.from_b end c.joining.invariant.joins).1
