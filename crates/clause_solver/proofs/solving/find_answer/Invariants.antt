use Rattle.clause_solver.specs.Learned.{IsSearch}
use Rattle.clause_solver.proofs.solving.find_answer.Given as goal

abbrev pub invariant-loop : goal.invariant-loop
invariant-loop l = IsSearch l.cnf l.search
