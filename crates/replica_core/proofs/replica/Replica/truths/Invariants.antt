use Rattle.std.specs.Prelude.{◌≡◌, filter, take}
use Rattle.spec_model.specs.Universe.{atoms}
use Rattle.replica_core.specs.Shown.{is_true_now}
use Rattle.replica_core.proofs.replica.Replica.truths.Given as goal

-- the true ones of the atoms so far
abbrev pub invariant-loop-place : goal.invariant-loop-place
invariant-loop-place l = l.truths ≡ filter (is_true_now l.spec l.self) (take l.place (atoms l.spec))
