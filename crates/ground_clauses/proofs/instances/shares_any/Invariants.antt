use Rattle.std.proofs.Common.{◌≡◌, take, false}
use Rattle.std.specs.List.{list_any}
use Rattle.ground_clauses.specs.Instances.{is_shared}
use Rattle.ground_clauses.proofs.instances.shares_any.Given as goal

abbrev pub invariant-loop-literal : goal.invariant-loop-literal
invariant-loop-literal l = list_any (is_shared l.target l.classes) (take l.literal-index l.literals) ≡ false
