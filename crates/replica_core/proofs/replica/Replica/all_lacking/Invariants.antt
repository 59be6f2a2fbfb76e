use Rattle.std.specs.Prelude.{◌≡◌, map, take}
use Rattle.run_model.specs.Wants.{want_less}
use Rattle.replica_core.specs.Replicas.{holds_of}
use Rattle.replica_core.proofs.replica.Replica.all_lacking.Given as goal

-- what is lacking of the wants so far
abbrev pub invariant-loop-want : goal.invariant-loop-want
invariant-loop-want l = l.lacking ≡ map (want_less (holds_of l.setup l.self)) (take l.want-index l.self.wants)
