use Rattle.std.proofs.Common.{◌+◌, ◌-◌, length, ◌∙◌, sym, ap, arith}
use Rattle.std.specs.List.{sum_by}
use Rattle.ground_clauses.proofs.Totals.{next_op, next_sum}
use Rattle.ground_clauses.specs.Cases.{upto_from}
use Rattle.ground_clauses.specs.Counting as counting
use Rattle.ground_clauses.proofs.counting.case_count.Goals as goal

pub loop-a-preserved : goal.loop-a-preserved
loop-a-preserved c = record {
  sum = next_sum c.loop-a.count c.from-count.result
      (sum_by (counting.row_count c.args.spec.now) (upto_from c.loop-a.a (length c.args.spec.now.ops - c.loop-a.a)))
      (sum_by (counting.row_count c.args.spec.now) (upto_from (c.loop-a.a + 1) (length c.args.spec.now.ops - (c.loop-a.a + 1))))
      (counting.case_count c.args.spec.now) c.loop-a.invariant.sum
      (next_op (counting.row_count c.args.spec.now) c.loop-a.a (length c.args.spec.now.ops) (omega arith)
      ∙ ap (λ x. x + sum_by (counting.row_count c.args.spec.now) (upto_from (c.loop-a.a + 1) (length c.args.spec.now.ops - (c.loop-a.a + 1)))) (sym (c.from-count.ensures ∙ c.row_count.ensures.value)));
  few = omega arith;
}
