use Rattle.std.proofs.Common.{take}
use Rattle.clause_solver.specs.Refuting.{IsMarked}
use Rattle.clause_solver.proofs.learning.mark.Given as goal

abbrev pub invariant-loop-lit : goal.invariant-loop-lit
invariant-loop-lit l = IsMarked l.fn.marks l.marks (take l.lit-index l.clause)
