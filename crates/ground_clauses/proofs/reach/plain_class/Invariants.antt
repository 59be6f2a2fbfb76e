use Rattle.std.proofs.Common.{◌≡◌, drop}
use Rattle.ground_clauses.specs.Cases.{plain_class}
use Rattle.ground_clauses.proofs.reach.plain_class.Given as goal

abbrev pub invariant-loop-param : goal.invariant-loop-param
invariant-loop-param l = plain_class (drop l.param-index l.params) l.left l.at ≡ plain_class l.params l.classes l.place
