use Rattle.std.specs.Prelude.{◌≡◌, ◌-◌, ◌++◌, drop, length, take}
use Rattle.run_model.specs.Wants.{still_wanted}
use Rattle.replica_core.specs.Replicas.{holds_of}
use Rattle.replica_core.proofs.replica.Replica.drop_met.Given as goal

-- of the last ones those are left that aren't met
abbrev pub invariant-loop-k : goal.invariant-loop-k
invariant-loop-k l = l.self ≡ record l.fn.self { wants = take (length l.fn.self.wants - l.k) l.fn.self.wants ++ still_wanted l.setup.replicas (holds_of l.setup l.fn.self) (drop (length l.fn.self.wants - l.k) l.fn.self.wants) }
