use Rattle.std.proofs.Common.{◌≡◌, drop}
use Rattle.spec_language.specs.Draft as drafts
use Rattle.spec_language.proofs.places.is_interval.Given as goal

abbrev pub invariant-loop-x : goal.invariant-loop-x
invariant-loop-x l = drafts.is_interval (drop l.x-index l.vars) l.name ≡ drafts.is_interval l.vars l.name
