use Rattle.std.proofs.Common.{◌≡◌, take, false}
use Rattle.std.specs.List.{list_any}
use Rattle.ground_clauses.specs.Rows.{same_known}
use Rattle.ground_clauses.proofs.literals.among.Given as goal

abbrev pub invariant-loop-other : goal.invariant-loop-other
invariant-loop-other l = list_any (same_known l.known) (take l.other-index l.lits) ≡ false
