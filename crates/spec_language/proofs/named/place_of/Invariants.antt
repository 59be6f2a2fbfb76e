use Rattle.std.proofs.Common.{◌≡◌, ◌+◌, drop}
use Rattle.spec_language.specs.Names.{place_in}
use Rattle.spec_language.proofs.named.place_of.Given as goal

abbrev pub invariant-loop-at : goal.invariant-loop-at
invariant-loop-at g l = l.at + place_in g.T.Named.name_of (drop l.at l.items) l.name ≡ place_in g.T.Named.name_of l.items l.name
