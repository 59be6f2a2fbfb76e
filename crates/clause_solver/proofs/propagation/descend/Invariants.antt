use Rattle.std.proofs.Common.{◌≡◌, length}
use Rattle.clause_solver.specs.Search.{KnownBelow, Moves}
use Rattle.clause_solver.proofs.propagation.descend.Given as goal

abbrev pub invariant-loop-var : goal.invariant-loop-var
invariant-loop-var l = Moves l.rows l.fn.trail l.trail × (length l.trail.values ≡ l.var-end) × KnownBelow l.var l.trail.values
