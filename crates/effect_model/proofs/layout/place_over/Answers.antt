use Rattle.std.proofs.Common.{arith}
use Rattle.effect_model.proofs.Placing.{as_many, placing_over, placing_small}
use Rattle.effect_model.proofs.layout.place_over.Goals as goal

pub bounds-args-at : goal.bounds-args-at
bounds-args-at c = as_many c.args.spec.now c.loop-at.at c.args.sorts.now c.args.args.now c.requires.within c.loop-at-test.true

pub overflow_mul-place : goal.overflow_mul-place
overflow_mul-place c =
    let inside = as_many c.args.spec.now c.loop-at.at c.args.sorts.now c.args.args.now c.requires.within c.loop-at-test.true in
    let p = placing_over c.args.spec.now _ _ c.loop-at.place c.size_of.result c.loop-at.at 0 0 c.args.sorts.now c.args.args.now c.loop-at-test.true inside c.size_of.ensures c.loop-at.invariant in
    omega (arith, placing_small _ _ _ _ _ p, c.requires.small)

pub overflow_add-place : goal.overflow_add-place
overflow_add-place c =
    let inside = as_many c.args.spec.now c.loop-at.at c.args.sorts.now c.args.args.now c.requires.within c.loop-at-test.true in
    let p = placing_over c.args.spec.now _ _ c.loop-at.place c.size_of.result c.loop-at.at 0 0 c.args.sorts.now c.args.args.now c.loop-at-test.true inside c.size_of.ensures c.loop-at.invariant in
    omega (arith, placing_small _ _ _ _ _ p, c.requires.small)

pub loop-at-preserved : goal.loop-at-preserved
loop-at-preserved c =
    let inside = as_many c.args.spec.now c.loop-at.at c.args.sorts.now c.args.args.now c.requires.within c.loop-at-test.true in
    placing_over c.args.spec.now _ _ c.loop-at.place c.size_of.result c.loop-at.at 0 0 c.args.sorts.now c.args.args.now c.loop-at-test.true inside c.size_of.ensures c.loop-at.invariant
