use Rattle.std.proofs.Common.{◌≡◌, take, false}
use Rattle.std.specs.List.{list_any}
use Rattle.ground_clauses.specs.Cases.{equality_holds}
use Rattle.ground_clauses.proofs.touched.equality_has.Given as goal

abbrev pub invariant-loop-literal : goal.invariant-loop-literal
invariant-loop-literal l = list_any (equality_holds l.classes l.sign) (take l.literal-index l.literals) ≡ false
