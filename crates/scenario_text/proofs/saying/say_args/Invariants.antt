use Rattle.std.proofs.Common.{◌≡◌, ◌++◌, drop}
use Rattle.scenario_text.specs.Saying as sayings
use Rattle.scenario_text.proofs.saying.say_args.Given as goal

abbrev pub invariant-loop-at : goal.invariant-loop-at
invariant-loop-at l = l.found ++ sayings.say_args (drop l.at l.params) (drop l.at l.spans) ≡ sayings.say_args l.params l.spans
