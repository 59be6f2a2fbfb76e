use Rattle.std.proofs.Common.{◌≡◌, take, false}
use Rattle.std.specs.List.{list_any}
use Rattle.ground_clauses.specs.Reached.{is_named}
use Rattle.ground_clauses.proofs.reached.names_any.Given as goal

abbrev pub invariant-loop-literal : goal.invariant-loop-literal
invariant-loop-literal l = list_any (is_named l.lines) (take l.literal-index l.literals) ≡ false
