use Rattle.std.proofs.Common.{◌≡◌, ◌++◌, drop, map}
use Rattle.std.specs.List.{flat_map}
use Rattle.spec_language.specs.Saying as sayings
use Rattle.spec_language.proofs.printing.put_nums.Given as goal

abbrev pub invariant-loop-x : goal.invariant-loop-x
invariant-loop-x l = l.out ++ flat_map sayings.ended_text (map (sayings.say_num l.sorts) (drop l.x-index l.nums)) ≡ l.fn.out ++ flat_map sayings.ended_text (map (sayings.say_num l.sorts) l.nums)
