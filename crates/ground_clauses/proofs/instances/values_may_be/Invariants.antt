use Rattle.std.proofs.Common.{◌≡◌, take, false}
use Rattle.std.specs.List.{list_any}
use Rattle.ground_clauses.specs.Instances.{can_be_atom}
use Rattle.ground_clauses.proofs.instances.values_may_be.Given as goal

abbrev pub invariant-loop-atom : goal.invariant-loop-atom
invariant-loop-atom l = list_any (can_be_atom l.pred l.front l.vars) (take l.atom-index l.atoms) ≡ false
