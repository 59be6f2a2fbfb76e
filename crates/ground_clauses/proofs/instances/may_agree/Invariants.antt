use Rattle.std.proofs.Common.{◌≡◌, drop}
use Rattle.ground_clauses.specs.Instances.{can_agree}
use Rattle.ground_clauses.proofs.instances.may_agree.Given as goal

abbrev pub invariant-loop-var : goal.invariant-loop-var
invariant-loop-var l = can_agree l.front (drop l.var-index l.vars) l.left ≡ can_agree l.front l.vars l.args
