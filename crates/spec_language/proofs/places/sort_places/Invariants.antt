use Rattle.std.proofs.Common.{◌≡◌, ◌++◌, drop, map, length}
use Rattle.spec_language.specs.Draft as drafts
use Rattle.spec_language.proofs.places.sort_places.Given as goal

abbrev pub invariant-loop-x : goal.invariant-loop-x
invariant-loop-x l = (l.places ++ map (drafts.sort_place l.sorts) (drop l.x-index l.names) ≡ map (drafts.sort_place l.sorts) l.names) × (length l.places ≡ l.x-index)
