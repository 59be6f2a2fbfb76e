use Rattle.std.proofs.Common.{◌≡◌, ◌++◌, drop, map}
use Rattle.spec_language.specs.Saying as sayings
use Rattle.spec_language.proofs.saying.var_names.Given as goal

abbrev pub invariant-loop-x : goal.invariant-loop-x
invariant-loop-x l = l.found ++ map (sayings.var_name l.vars) (drop l.x-index l.places) ≡ map (sayings.var_name l.vars) l.places
