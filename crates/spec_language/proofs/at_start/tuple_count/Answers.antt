use Rattle.std.proofs.Common.{◌+◌, arith}
use Rattle.spec_language.proofs.Instances.{grown, limited, size_small, counted}
use Rattle.spec_language.proofs.at_start.tuple_count.Goals as goal

pub times-count-requires : goal.times-count-requires
times-count-requires c =
    let small = size_small c.args.sorts.now _ c.requires.sizes in
    limited _ (c.loop-place.place-index + 1) (omega (arith, c.requires.few, c.loop-place-test.true)) (grown c.loop-place.count c.size_at.result c.loop-place.place-index (omega (arith, c.requires.few, c.loop-place-test.true)) c.loop-place.invariant.1 (rw c.size_at.ensures small))

pub loop-place-preserved : goal.loop-place-preserved
loop-place-preserved c =
    let small = size_small c.args.sorts.now _ c.requires.sizes in (
      rw (c.times-count.ensures, c.size_at.ensures) (counted c.args.sorts.now c.args.places.now c.loop-place.place-index c.loop-place.count _ c.loop-place-test.true c.loop-place.invariant.0),
      rw c.times-count.ensures (grown c.loop-place.count c.size_at.result c.loop-place.place-index (omega (arith, c.requires.few, c.loop-place-test.true)) c.loop-place.invariant.1 (rw c.size_at.ensures small)),
    )

pub returns-clause-small : goal.returns-clause-small
returns-clause-small c = limited c.loop-place.count c.loop-place.place-index (omega (arith, c.requires.few)) c.loop-place.invariant.1
