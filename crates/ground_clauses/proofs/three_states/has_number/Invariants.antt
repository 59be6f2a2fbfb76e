use Rattle.std.proofs.Common.{◌≡◌, take, false}
use Rattle.std.specs.List.{list_any}
use Rattle.ground_clauses.specs.ThreeStates.{same_number}
use Rattle.ground_clauses.proofs.three_states.has_number.Given as goal

abbrev pub invariant-loop-other : goal.invariant-loop-other
invariant-loop-other l = list_any (same_number l.lit) (take l.other-index l.lits) ≡ false
