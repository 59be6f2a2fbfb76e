use Rattle.std.proofs.Common.{◌≡◌, take, false}
use Rattle.std.specs.List.{list_any}
use Rattle.ground_clauses.specs.Fronts.{acts}
use Rattle.ground_clauses.specs.Literals.{is_set}
use Rattle.ground_clauses.proofs.touched.sets_any.Given as goal

abbrev pub invariant-loop-literal : goal.invariant-loop-literal
invariant-loop-literal l = list_any (is_set (acts l.acting) l.classes) (take l.literal-index l.literals) ≡ false
