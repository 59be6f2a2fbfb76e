use Rattle.clause_solver.specs.Search.{Moves}
use Rattle.clause_solver.proofs.propagation.visit.Given as goal

abbrev pub invariant-loop : goal.invariant-loop
invariant-loop l = Moves l.rows l.fn.trail l.trail
