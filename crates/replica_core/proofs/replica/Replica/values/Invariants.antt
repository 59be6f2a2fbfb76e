use Rattle.std.specs.Prelude.{◌≡◌, map, take}
use Rattle.spec_model.specs.Universe.{cells}
use Rattle.replica_core.specs.Shown.{value_now}
use Rattle.replica_core.proofs.replica.Replica.values.Given as goal

-- what the cells so far are worth
abbrev pub invariant-loop-place : goal.invariant-loop-place
invariant-loop-place l = l.values ≡ map (value_now l.spec l.self) (take l.place (cells l.spec))
