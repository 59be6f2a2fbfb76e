use Rattle.std.proofs.Common.{◌≡◌, drop}
use Rattle.ground_clauses.specs.Query.{same_list}
use Rattle.ground_clauses.proofs.literals.same_numbers.Given as goal

abbrev pub invariant-loop-number : goal.invariant-loop-number
invariant-loop-number l = same_list (drop l.number-index l.first) l.left ≡ same_list l.first l.second
