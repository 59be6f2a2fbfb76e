use Rattle.std.proofs.Common.{◌≡◌, ◌++◌, drop, map}
use Rattle.spec_language.specs.Saying as sayings
use Rattle.spec_language.proofs.saying.say_terms.Given as goal

abbrev pub invariant-loop-x : goal.invariant-loop-x
invariant-loop-x l = l.found ++ map (sayings.say_term l.params) (drop l.x-index l.terms) ≡ map (sayings.say_term l.params) l.terms
