use Rattle.std.proofs.Common.{◌≡◌, ◌++◌, drop, map}
use Rattle.std.specs.List.{flat_map}
use Rattle.scenario_text.specs.Saying as sayings
use Rattle.scenario_text.proofs.printing.put_stops.Given as goal

abbrev pub invariant-loop-x : goal.invariant-loop-x
invariant-loop-x l = l.out ++ flat_map sayings.ended_text (map sayings.say_stop (drop l.x-index l.stops)) ≡ l.fn.out ++ flat_map sayings.ended_text (map sayings.say_stop l.stops)
