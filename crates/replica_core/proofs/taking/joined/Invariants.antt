use Rattle.std.specs.Prelude.{◌≡◌, take}
use Rattle.run_model.specs.Worlds.{joined}
use Rattle.replica_core.proofs.taking.joined.Given as goal

-- the counts before this place
abbrev pub invariant-loop-at : goal.invariant-loop-at
invariant-loop-at l = l.cut ≡ joined (take l.at l.a) (take l.at l.b)
