use Rattle.replica_world.proofs.Room.{emptied}
use Rattle.replica_world.proofs.links.take_nothing.Goals as goal

pub returns : goal.returns
returns c before whole is =
    emptied before c.args.links.now.items c.args.from c.args.to c.place.result _ c.index_mut-link.result.now c.pop-nothing.new.self c.pop-nothing.result c.requires.from c.requires.to whole is c.place.ensures.value c.index_mut-link.ensures.value c.pop-nothing.ensures
