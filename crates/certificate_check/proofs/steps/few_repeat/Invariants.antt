use Rattle.std.proofs.Common.{◌≡◌, length}
use Rattle.ground_clauses.specs.Derivations.{repeats}
use Rattle.certificate_check.proofs.steps.few_repeat.Given as goal

abbrev pub invariant-pairing : goal.invariant-pairing
invariant-pairing l = repeats l.left ≡ repeats l.lits

abbrev pub decreases-pairing : goal.decreases-pairing
decreases-pairing l = length l.left
