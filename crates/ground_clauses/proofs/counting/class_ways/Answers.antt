use Rattle.std.proofs.Common.{◌≡◌, ◌+◌, ◌*◌, ◌^◌, ◌≤◌, min, subst, sym, ap, ◌∙◌, arith}
use Rattle.ground_clauses.proofs.Counts.{bits_few, few_classes, next_way, next_ways, next_weight, small_term, small_ways, ways_fit}
use Rattle.ground_clauses.specs.Counting as counting
use Rattle.ground_clauses.proofs.counting.class_ways.Goals as goal

pub weighted-ways-requires : goal.weighted-ways-requires
weighted-ways-requires c =
    subst (λ x. x ≤ 16 ^ 12)
    (sym (next_way c.args.count c.args.intervals c.loop-k.k c.splits_of-row.result (c.loop-k.weight * c.bit_ways-weight.result) c.splits_of-row.ensures (omega arith)
    (next_weight c.loop-k.k c.args.intervals c.loop-k.weight c.bit_ways-weight.result c.loop-k.invariant.0 c.bit_ways-weight.ensures.value)))
    (small_term c.args.count c.args.intervals (c.loop-k.k + 1) c.requires.few (omega arith) (bits_few c.args.intervals c.requires.intervals))

pub loop-k-preserved : goal.loop-k-preserved
loop-k-preserved c =
    let weight : c.loop-k.weight * c.bit_ways-weight.result ≡ 2 ^ ((c.loop-k.k + 1) * c.args.intervals) = next_weight c.loop-k.k c.args.intervals c.loop-k.weight c.bit_ways-weight.result c.loop-k.invariant.0 c.bit_ways-weight.ensures.value in (
      weight,
      next_ways c.args.count c.args.intervals c.loop-k.k c.loop-k.ways c.weighted-ways.result c.loop-k.invariant.1
          (c.weighted-ways.ensures ∙ next_way c.args.count c.args.intervals c.loop-k.k c.splits_of-row.result (c.loop-k.weight * c.bit_ways-weight.result) c.splits_of-row.ensures (omega arith) weight),
    )

pub returns-clause-value : goal.returns-clause-value
returns-clause-value c =
    c.loop-k.invariant.1 ∙ ap (λ k. counting.class_ways k c.args.count c.args.intervals) (let e : c.loop-k.k ≡ min c.args.size c.args.count = omega arith in e)
    ∙ sym (few_classes c.args.size c.args.count c.args.intervals)

pub returns-clause-few : goal.returns-clause-few
returns-clause-few c =
    subst (λ x. x ≤ 16 ^ c.args.count) (sym c.loop-k.invariant.1)
    (small_ways c.args.count c.args.intervals c.loop-k.k (omega arith) (bits_few c.args.intervals c.requires.intervals))

pub overflow_add-ways : goal.overflow_add-ways
overflow_add-ways c =
    let weight : c.loop-k.weight * c.bit_ways-weight.result ≡ 2 ^ ((c.loop-k.k + 1) * c.args.intervals) = next_weight c.loop-k.k c.args.intervals c.loop-k.weight c.bit_ways-weight.result c.loop-k.invariant.0 c.bit_ways-weight.ensures.value in
    let sum : c.loop-k.ways + c.weighted-ways.result ≡ counting.class_ways (c.loop-k.k + 1) c.args.count c.args.intervals =
    next_ways c.args.count c.args.intervals c.loop-k.k c.loop-k.ways c.weighted-ways.result c.loop-k.invariant.1
    (c.weighted-ways.ensures ∙ next_way c.args.count c.args.intervals c.loop-k.k c.splits_of-row.result (c.loop-k.weight * c.bit_ways-weight.result) c.splits_of-row.ensures (omega arith) weight) in
    let few : counting.class_ways (c.loop-k.k + 1) c.args.count c.args.intervals ≤ 281474976710656 = ways_fit c.args.count c.args.intervals (c.loop-k.k + 1) c.requires.few (omega arith) c.requires.intervals in
    omega (arith, sum, few)
