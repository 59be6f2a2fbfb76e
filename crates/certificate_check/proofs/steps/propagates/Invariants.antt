use Rattle.std.proofs.Common.{◌≡◌, ◌++◌, length}
use Rattle.ground_clauses.specs.Derivations.{propagates}
use Rattle.certificate_check.specs.Turns.{steps_lits}
use Rattle.certificate_check.proofs.steps.propagates.Given as goal

abbrev pub invariant-hinting : goal.invariant-hinting
invariant-hinting l = propagates (l.clauses ++ steps_lits l.earlier) l.hints l.fn.falses ≡ propagates (l.clauses ++ steps_lits l.earlier) l.left l.falses

abbrev pub decreases-hinting : goal.decreases-hinting
decreases-hinting l = length l.left
