use Rattle.clause_solver.specs.Search.{Moves}
use Rattle.clause_solver.proofs.propagation.examine_from.Given as goal

abbrev pub invariant-loop-row : goal.invariant-loop-row
invariant-loop-row l = Moves l.rows l.fn.trail l.trail
