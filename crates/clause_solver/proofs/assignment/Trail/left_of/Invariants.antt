use Rattle.std.proofs.Common.{◌≡◌, take}
use Rattle.clause_solver.specs.Assigning.{kind_of, left}
use Rattle.clause_solver.proofs.assignment.Trail.left_of.Given as goal

abbrev pub invariant-loop-lit : goal.invariant-loop-lit
invariant-loop-lit l = l.found ≡ kind_of (left l.self.values (take l.lit-index l.clause))
