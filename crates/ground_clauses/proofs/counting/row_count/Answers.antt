use Rattle.std.proofs.Common.{◌+◌, ◌-◌, length, ◌∙◌, sym, ap, arith}
use Rattle.std.specs.List.{sum_by}
use Rattle.ground_clauses.proofs.Totals.{next_op, next_sum}
use Rattle.ground_clauses.specs.Cases.{upto_from}
use Rattle.ground_clauses.specs.Counting as counting
use Rattle.ground_clauses.proofs.counting.row_count.Goals as goal

pub loop-b-preserved : goal.loop-b-preserved
loop-b-preserved c = record {
  sum = next_sum c.loop-b.count c.pair_count-count.result
      (sum_by (counting.pair_count c.args.spec.now c.args.a) (upto_from c.loop-b.b (length c.args.spec.now.ops - c.loop-b.b)))
      (sum_by (counting.pair_count c.args.spec.now c.args.a) (upto_from (c.loop-b.b + 1) (length c.args.spec.now.ops - (c.loop-b.b + 1))))
      (counting.row_count c.args.spec.now c.args.a) c.loop-b.invariant.sum
      (next_op (counting.pair_count c.args.spec.now c.args.a) c.loop-b.b (length c.args.spec.now.ops) (omega arith)
      ∙ ap (λ x. x + sum_by (counting.pair_count c.args.spec.now c.args.a) (upto_from (c.loop-b.b + 1) (length c.args.spec.now.ops - (c.loop-b.b + 1)))) (sym c.pair_count-count.ensures.value));
  few = omega arith;
}
