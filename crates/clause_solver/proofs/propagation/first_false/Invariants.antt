use Rattle.std.proofs.Common.{ℕ, ◌<◌}
use Rattle.clause_solver.specs.Search.{IsConflict}
use Rattle.clause_solver.proofs.propagation.first_false.Given as goal

abbrev pub invariant-loop-row : goal.invariant-loop-row
invariant-loop-row l = (r : ℕ) → r < l.row → IsConflict l.rows l.trail.values r → ⊥
