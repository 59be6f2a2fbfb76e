use Rattle.std.proofs.Common.{◌≡◌, ◌++◌, drop, map}
use Rattle.std.specs.List.{flat_map}
use Rattle.scenario_text.specs.Saying as sayings
use Rattle.scenario_text.proofs.printing.put_asks.Given as goal

abbrev pub invariant-loop-x : goal.invariant-loop-x
invariant-loop-x l = l.out ++ flat_map sayings.ended_text (map (sayings.say_ask l.ops) (drop l.x-index l.asks)) ≡ l.fn.out ++ flat_map sayings.ended_text (map (sayings.say_ask l.ops) l.asks)
