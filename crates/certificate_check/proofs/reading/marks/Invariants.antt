use Rattle.std.proofs.Common.{◌≡◌, ◌++◌, drop}
use Rattle.spec_model.specs.Fits.{marked_from}
use Rattle.certificate_check.proofs.reading.marks.Given as goal

abbrev pub invariant-loop-place : goal.invariant-loop-place
invariant-loop-place l = l.places ++ marked_from l.place (drop l.place l.clauses) ≡ marked_from 0 l.clauses
