use Rattle.std.proofs.Common.{◌+◌, ◌*◌, ◌≤◌, ◌∙◌, arith}
use Rattle.ground_clauses.proofs.Totals.{next_sort, small_count}
use Rattle.ground_clauses.proofs.counting.shape_count.Goals as goal

pub overflow_mul-count : goal.overflow_mul-count
overflow_mul-count c =
    let few : c.loop-sort.count * c.sort_count-count.result ≤ 281474976710656 =
    small_count c.args.spec.now c.args.a c.args.b c.args.target c.as_slice-sorts.result.now (c.loop-sort.sort + 1) (c.loop-sort.count * c.sort_count-count.result) c.requires.well_formed
    (c.as_slice-sorts.ensures.value ∙ c.pattern_sorts-elements.ensures) c.as_slice-sorts.ensures.fits
    (next_sort c.args.spec.now c.args.a c.args.b c.args.target c.as_slice-sorts.result.now c.loop-sort.sort c.loop-sort.count c.sort_count-count.result
    (c.as_slice-sorts.ensures.value ∙ c.pattern_sorts-elements.ensures) c.loop-sort.invariant c.sort_count-count.ensures.value) in
    omega (arith, few)

pub loop-sort-preserved : goal.loop-sort-preserved
loop-sort-preserved c =
    next_sort c.args.spec.now c.args.a c.args.b c.args.target c.as_slice-sorts.result.now c.loop-sort.sort c.loop-sort.count c.sort_count-count.result
    (c.as_slice-sorts.ensures.value ∙ c.pattern_sorts-elements.ensures) c.loop-sort.invariant c.sort_count-count.ensures.value

pub returns-clause-few : goal.returns-clause-few
returns-clause-few c =
    small_count c.args.spec.now c.args.a c.args.b c.args.target c.as_slice-sorts.result.now c.loop-sort.sort c.loop-sort.count c.requires.well_formed
    (c.as_slice-sorts.ensures.value ∙ c.pattern_sorts-elements.ensures) c.as_slice-sorts.ensures.fits c.loop-sort.invariant
