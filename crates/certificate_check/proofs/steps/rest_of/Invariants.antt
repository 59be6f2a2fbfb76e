use Rattle.std.proofs.Common.{◌≡◌, take}
use Rattle.ground_clauses.specs.Derivations.{undecided}
use Rattle.certificate_check.specs.Turns.{rest_of}
use Rattle.certificate_check.proofs.steps.rest_of.Given as goal

abbrev pub invariant-loop-lit : goal.invariant-loop-lit
invariant-loop-lit l = l.found ≡ rest_of (undecided l.falses (take l.lit-index l.clause))
