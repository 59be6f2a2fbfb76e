use Rattle.std.proofs.Common.{◌≡◌, take, false}
use Rattle.std.specs.List.{list_any}
use Rattle.effect_model.specs.Laying.{sets}
use Rattle.effect_model.proofs.breaking.any_set.Given as goal

abbrev pub invariant-loop-literal : goal.invariant-loop-literal
invariant-loop-literal g l = list_any (sets l.laid l.xs) (take l.literal-index l.literals) ≡ false
