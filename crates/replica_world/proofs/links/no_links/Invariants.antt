use Rattle.std.proofs.Common.{◌≡◌, [], replicate}
use Rattle.replica_world.proofs.links.no_links.Given as goal

abbrev pub invariant-loop-place : goal.invariant-loop-place
invariant-loop-place l = l.links.items ≡ replicate l._place []
