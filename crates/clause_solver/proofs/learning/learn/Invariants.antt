use Rattle.std.proofs.Common.{◌≤◌, length}
use Rattle.clause_solver.specs.Refuting.{IsRefuting, values_before}
use Rattle.clause_solver.proofs.learning.learn.Given as goal

abbrev pub invariant-back : goal.invariant-back
invariant-back l = (l.at ≤ length l.trail.entries) × IsRefuting l.rows (values_before l.trail l.at) l.analysis

abbrev pub decreases-back : goal.decreases-back
decreases-back l = l.at
