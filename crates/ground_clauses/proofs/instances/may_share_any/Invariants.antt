use Rattle.std.proofs.Common.{◌≡◌, take, false}
use Rattle.std.specs.List.{list_any}
use Rattle.ground_clauses.specs.Instances.{can_share}
use Rattle.ground_clauses.proofs.instances.may_share_any.Given as goal

abbrev pub invariant-loop-literal : goal.invariant-loop-literal
invariant-loop-literal l = list_any (can_share l.target l.front) (take l.literal-index l.literals) ≡ false
