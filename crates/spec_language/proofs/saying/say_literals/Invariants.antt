use Rattle.std.proofs.Common.{◌≡◌, ◌++◌, drop, map}
use Rattle.spec_language.specs.Saying as sayings
use Rattle.spec_language.proofs.saying.say_literals.Given as goal

abbrev pub invariant-loop-x : goal.invariant-loop-x
invariant-loop-x l = l.found ++ map (sayings.say_literal l.preds l.vars) (drop l.x-index l.literals) ≡ map (sayings.say_literal l.preds l.vars) l.literals
