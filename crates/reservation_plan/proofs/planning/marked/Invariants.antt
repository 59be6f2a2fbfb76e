use Rattle.std.proofs.Common.{◌≡◌, ◌++◌, drop}
use Rattle.spec_model.specs.Fits.{marked_from}
use Rattle.reservation_plan.proofs.planning.marked.Given as goal

abbrev pub invariant-loop-place : goal.invariant-loop-place
invariant-loop-place l = l.masks ++ marked_from l.place (drop l.place l.spec.clauses) ≡ marked_from 0 l.spec.clauses
