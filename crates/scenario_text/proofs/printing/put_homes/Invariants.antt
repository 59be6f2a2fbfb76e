use Rattle.std.proofs.Common.{◌≡◌, ◌++◌, drop}
use Rattle.std.specs.List.{flat_map}
use Rattle.scenario_text.specs.Saying as sayings
use Rattle.scenario_text.proofs.printing.put_homes.Given as goal

abbrev pub invariant-loop-client : goal.invariant-loop-client
invariant-loop-client l = l.out ++ flat_map sayings.ended_text (sayings.say_homes l.client (drop l.client l.homes)) ≡ l.fn.out ++ flat_map sayings.ended_text (sayings.say_homes 0 l.homes)
