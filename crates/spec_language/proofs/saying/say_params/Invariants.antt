use Rattle.std.proofs.Common.{◌≡◌, ◌++◌, drop, map}
use Rattle.spec_language.specs.Saying as sayings
use Rattle.spec_language.proofs.saying.say_params.Given as goal

abbrev pub invariant-loop-x : goal.invariant-loop-x
invariant-loop-x l = l.found ++ map (sayings.say_param l.sorts) (drop l.x-index l.params) ≡ map (sayings.say_param l.sorts) l.params
