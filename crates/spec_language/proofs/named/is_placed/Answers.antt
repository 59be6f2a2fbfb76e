use Rattle.spec_language.proofs.Placed.{placed_known}
use Rattle.spec_language.proofs.named.is_placed.Goals as goal

pub returns : goal.returns
returns g c = rw (c.requires) (placed_known g.T.Named.name_of c.args.items.now c.args.name.now)
