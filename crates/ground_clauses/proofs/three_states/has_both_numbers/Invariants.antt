use Rattle.std.proofs.Common.{◌≡◌, length}
use Rattle.ground_clauses.specs.ThreeStates.{both_numbers}
use Rattle.ground_clauses.proofs.three_states.has_both_numbers.Given as goal

abbrev pub invariant-pairing : goal.invariant-pairing
invariant-pairing l = both_numbers l.left ≡ both_numbers l.lits

abbrev pub decreases-pairing : goal.decreases-pairing
decreases-pairing l = length l.left
