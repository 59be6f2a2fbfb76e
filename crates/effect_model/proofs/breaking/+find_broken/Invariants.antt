use Rattle.std.proofs.Common.{◌≡◌, ◌≤◌, length, None}
use Rattle.std.specs.List.{find}
use Rattle.effect_model.specs.Laying.{falsifies}
use Rattle.effect_model.proofs.Searched.{tuples_upto}
use Rattle.effect_model.proofs.breaking.+find_broken.Given as goal

abbrev pub decreases-find_broken : goal.decreases-find_broken
decreases-find_broken g l = length l.sizes.now

-- none that begins with an element below x
abbrev pub invariant-loop-turn : goal.invariant-loop-turn
invariant-loop-turn g l = record {
  none : find (falsifies g.T.Truth.truths l.laid l.clause) (tuples_upto l.front l.others l.x) ≡ None;
  below : l._turn ≤ l.x;
  within : l.x ≤ l.size;
}
