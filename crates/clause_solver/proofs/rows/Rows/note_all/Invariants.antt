use Rattle.std.proofs.Common.{◌≡◌}
use Rattle.clause_solver.proofs.rows.Rows.note_all.Given as goal

abbrev pub invariant-loop-row : goal.invariant-loop-row
invariant-loop-row l = l.self ≡ l.fn.self
