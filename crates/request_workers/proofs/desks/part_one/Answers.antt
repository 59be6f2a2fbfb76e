use Rattle.request_workers.proofs.DesksParted.{parted_one}
use Rattle.request_workers.proofs.desks.part_one.Goals as goal

pub returns : goal.returns
returns g c =
    parted_one g.S.Storage.keeps g.S.Storage.shows c.args.served c.into_node.result c.part-still.result.still c.part-still.result.ends c.into_passes.result
    c.into_node.ensures.node c.into_node.ensures.served c.part-still.ensures.still c.part-still.ensures.ends c.into_passes.ensures.passes c.into_passes.ensures.own
