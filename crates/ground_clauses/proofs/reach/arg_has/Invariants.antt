use Rattle.std.proofs.Common.{◌≡◌, drop}
use Rattle.ground_clauses.specs.Cases.{reaches, reaches_have}
use Rattle.ground_clauses.proofs.reach.arg_has.Given as goal

abbrev pub invariant-loop-param : goal.invariant-loop-param
invariant-loop-param l = reaches_have (reaches (drop l.param-index l.params) l.left l.bits) l.at l.class ≡ reaches_have (reaches l.params l.classes l.bits) l.place l.class
