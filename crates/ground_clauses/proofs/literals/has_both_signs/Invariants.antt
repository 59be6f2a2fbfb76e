use Rattle.std.proofs.Common.{◌≡◌, length}
use Rattle.ground_clauses.specs.Rows.{known_both_signs}
use Rattle.ground_clauses.proofs.literals.has_both_signs.Given as goal

abbrev pub invariant-pairing : goal.invariant-pairing
invariant-pairing l = known_both_signs l.left ≡ known_both_signs l.lits

abbrev pub decreases-pairing : goal.decreases-pairing
decreases-pairing l = length l.left
