use Rattle.std.proofs.Common.{◌*◌, ◌+◌, ◌<◌, length, drop, get_or, arith}
use Rattle.spec_model.specs.Universe.{sizes_of, tuple_count}
use Rattle.spec_model.specs.Truths as truths
use Rattle.effect_model.proofs.Sizes.{all_left, count_more, count_some, factor_small}
use Rattle.effect_model.proofs.layout.count_tuples.Goals as goal

pub overflow_mul-count : goal.overflow_mul-count
overflow_mul-count c =
    let step = count_more c.args.spec.now c.args.sorts.now c.loop-sort.sort-index c.loop-sort.count 0 c.loop-sort-test.true c.loop-sort.invariant in
    let some = count_some c.args.spec.now (drop (c.loop-sort.sort-index + 1) c.args.sorts.now) c.requires.sizes (all_left (λ s. s < length c.args.spec.now.sorts) c.args.sorts.now (c.loop-sort.sort-index + 1) c.requires.known) in
    let le = factor_small (c.loop-sort.count * truths.size_of c.args.spec.now (get_or c.args.sorts.now c.loop-sort.sort-index 0)) (tuple_count (sizes_of c.args.spec.now (drop (c.loop-sort.sort-index + 1) c.args.sorts.now))) some in
    rw c.size_of.ensures (omega (arith, step, le, c.requires.small))

pub loop-sort-preserved : goal.loop-sort-preserved
loop-sort-preserved c =
    rw c.size_of.ensures (count_more c.args.spec.now c.args.sorts.now c.loop-sort.sort-index c.loop-sort.count 0 c.loop-sort-test.true c.loop-sort.invariant)
