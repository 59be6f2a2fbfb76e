use Rattle.std.proofs.Common.{◌-◌, ap}
use Rattle.replica_world.proofs.Room.{filled}
use Rattle.replica_world.proofs.links.fill.Goals as goal

pub returns : goal.returns
returns c before whole is =
    filled before c.args.links.now.items c.args.from c.args.to c.place.result _ c.args.heard c.index_mut-link.result.now c.set.new.self (c.len-last.result - 1) c.requires.from c.requires.to whole is c.place.ensures.value c.index_mut-link.ensures.value
    (ap (λ n. n - 1) c.len-last.ensures.value) c.set.ensures
