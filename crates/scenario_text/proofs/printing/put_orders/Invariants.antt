use Rattle.std.proofs.Common.{◌≡◌, ◌++◌, drop, map}
use Rattle.std.specs.List.{flat_map}
use Rattle.scenario_text.specs.Saying as sayings
use Rattle.scenario_text.proofs.printing.put_orders.Given as goal

abbrev pub invariant-loop-x : goal.invariant-loop-x
invariant-loop-x l = l.out ++ flat_map sayings.ended_text (map (sayings.say_order l.ops) (drop l.x-index l.orders)) ≡ l.fn.out ++ flat_map sayings.ended_text (map (sayings.say_order l.ops) l.orders)
