use Rattle.std.proofs.Common.{◌≡◌, map, take}
use Rattle.clause_solver.specs.Assigning.{is_yes}
use Rattle.clause_solver.proofs.assignment.Trail.truths.Given as goal

abbrev pub invariant-loop-value : goal.invariant-loop-value
invariant-loop-value l = l.truths ≡ map is_yes (take l.value-index l.value-items)
