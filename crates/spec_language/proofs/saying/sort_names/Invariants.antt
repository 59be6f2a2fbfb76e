use Rattle.std.proofs.Common.{◌≡◌, ◌++◌, drop, map}
use Rattle.spec_language.specs.Saying as sayings
use Rattle.spec_language.proofs.saying.sort_names.Given as goal

abbrev pub invariant-loop-x : goal.invariant-loop-x
invariant-loop-x l = l.found ++ map (sayings.sort_name l.sorts) (drop l.x-index l.places) ≡ map (sayings.sort_name l.sorts) l.places
