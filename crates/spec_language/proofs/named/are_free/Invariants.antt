use Rattle.std.proofs.Common.{length}
use Rattle.spec_language.proofs.Twins.{HoldsBehind}
use Rattle.spec_language.proofs.named.are_free.Given as goal

abbrev pub invariant-going : goal.invariant-going
invariant-going g l = HoldsBehind g.T.Named.name_of l.behind l.items l.front

abbrev pub decreases-going : goal.decreases-going
decreases-going g l = length l.front
