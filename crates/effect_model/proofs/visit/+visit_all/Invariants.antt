use Rattle.std.proofs.Common.{◌≡◌, ◌≤◌, length}
use Rattle.effect_model.proofs.Visited.{done_upto}
use Rattle.effect_model.proofs.visit.+visit_all.Given as goal

abbrev pub decreases-visit_all : goal.decreases-visit_all
decreases-visit_all g l = length l.sizes.now

-- all elements below x were visited
abbrev pub invariant-loop-turn : goal.invariant-loop-turn
invariant-loop-turn g l = record {
  done : l.kept ≡ done_upto (g.V.Visiting.done l.visiting) l.front l.others l.x l.fn.kept;
  fits : g.V.Visiting.fits l.visiting l.kept;
  below : l._turn ≤ l.x;
  within : l.x ≤ l.size;
}
