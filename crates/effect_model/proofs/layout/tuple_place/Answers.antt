use Rattle.std.proofs.Common.{◌<◌, length, arith}
use Rattle.effect_model.proofs.Sizes.{within_length}
use Rattle.effect_model.proofs.Placing.{placing_more, placing_small}
use Rattle.effect_model.proofs.layout.tuple_place.Goals as goal

pub overflow_mul-place : goal.overflow_mul-place
overflow_mul-place c =
    let inside : c.loop-at.at < length c.args.args.now = omega (arith, within_length (λ s. s) c.args.sizes.now c.args.args.now c.requires.within) in
    let p = placing_more _ _ c.loop-at.place c.loop-at.at 0 0 c.args.sizes.now c.args.args.now c.loop-at-test.true inside c.loop-at.invariant in
    omega (arith, placing_small _ _ _ _ _ p, c.requires.small)

pub overflow_add-place : goal.overflow_add-place
overflow_add-place c =
    let inside : c.loop-at.at < length c.args.args.now = omega (arith, within_length (λ s. s) c.args.sizes.now c.args.args.now c.requires.within) in
    let p = placing_more _ _ c.loop-at.place c.loop-at.at 0 0 c.args.sizes.now c.args.args.now c.loop-at-test.true inside c.loop-at.invariant in
    omega (arith, placing_small _ _ _ _ _ p, c.requires.small)

pub loop-at-preserved : goal.loop-at-preserved
loop-at-preserved c =
    let inside : c.loop-at.at < length c.args.args.now = omega (arith, within_length (λ s. s) c.args.sizes.now c.args.args.now c.requires.within) in
    placing_more _ _ c.loop-at.place c.loop-at.at 0 0 c.args.sizes.now c.args.args.now c.loop-at-test.true inside c.loop-at.invariant
