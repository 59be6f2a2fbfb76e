use Rattle.std.proofs.Common.{rules}
use Rattle.request_workers.proofs.DesksParted.{parted_last, parted_next}
use Rattle.request_workers.proofs.desks.part_all.Goals as goal

pub loop-one-preserved : goal.loop-one-preserved
loop-one-preserved g c = parted_next c.loop-one.invariant.1 c.loop-one.invariant.0 (c.in-Some.ensures.steps).0 c.in_ok-push.ensures.items c.in_ok-push-2.ensures.ok c.part_one-still.ensures

pub returns : goal.returns
returns g c = parted_last c.loop-one.one-iterator.rest.items c.loop-one.invariant.1 c.loop-one.invariant.0 (search rules)
