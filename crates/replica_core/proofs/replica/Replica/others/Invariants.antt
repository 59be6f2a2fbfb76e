use Rattle.std.specs.Prelude.{◌≢◌, take}
use Rattle.std.specs.List.{AllByRecursion}
use Rattle.replica_core.proofs.replica.Replica.others.Given as goal

-- the items so far are of others
abbrev pub invariant-loop-at : goal.invariant-loop-at
invariant-loop-at l = AllByRecursion (λ item. item.origin ≢ l.self.me) (take l.at l.items)
