use Rattle.clause_solver.specs.Search.{Moves}
use Rattle.clause_solver.proofs.propagation.propagate.Given as goal

abbrev pub invariant-loop-at : goal.invariant-loop-at
invariant-loop-at l = Moves l.rows l.fn.trail l.trail
