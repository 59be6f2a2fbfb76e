use Rattle.std.proofs.Common.{◌≡◌, List, length}
use Rattle.ground_clauses.specs.declared.clauses.Lit.{Lit}
use Rattle.clause_solver.specs.Trails.{IsTrail}
use Rattle.clause_solver.proofs.assignment.Trail.undo_to.Given as goal

abbrev pub invariant-loop : goal.invariant-loop
invariant-loop l = (length l.self.values ≡ length l.fn.self.values) × ((rows : List (List Lit)) → IsTrail rows l.fn.self → IsTrail rows l.self)
