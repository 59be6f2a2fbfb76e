use Rattle.std.proofs.Common.{◌≡◌, ◌++◌, drop, map, length}
use Rattle.spec_language.specs.Draft as drafts
use Rattle.spec_language.proofs.places.var_places.Given as goal

abbrev pub invariant-loop-x : goal.invariant-loop-x
invariant-loop-x l = (l.places ++ map (drafts.var_place l.vars) (drop l.x-index l.names) ≡ map (drafts.var_place l.vars) l.names) × (length l.places ≡ l.x-index)
