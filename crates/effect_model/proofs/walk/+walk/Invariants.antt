use Rattle.std.proofs.Common.{◌≡◌, ◌≤◌, ◌++◌, length}
use Rattle.effect_model.proofs.Walks.{listed_upto}
use Rattle.effect_model.proofs.walk.+walk.Given as goal

abbrev pub decreases-walk : goal.decreases-walk
decreases-walk g l = length l.sizes.now

-- what stands at all elements below x is listed
abbrev pub invariant-loop-turn : goal.invariant-loop-turn
invariant-loop-turn g l = record {
  listed : l.out ≡ l.fn.out ++ listed_upto (g.L.Listing.listed l.listing) l.front l.others l.x;
  below : l._turn ≤ l.x;
  within : l.x ≤ l.size;
}
