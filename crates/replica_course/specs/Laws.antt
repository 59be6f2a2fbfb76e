-- Laws of what a replica keeps.
use Rattle.std.specs.Prelude.{◌≢◌, ◌≤◌, List, [], length}
use Rattle.spec_model.specs.declared.plan.Setup.{Setup}
use Rattle.run_model.specs.declared.batch.Batch.{Batch}
use Rattle.op_records.specs.Spelling.{IsBatch}
use Rattle.replica_core.specs.Decisions.{IsDecided}
use Rattle.replica_core.specs.Recovered.{HasCommitted}
use Rattle.replica_core.specs.Replicas.{view_of}
use Rattle.replica_core.specs.declared.replica.Replica.{Replica}

-- of at most 8 replicas, each batch that isn't empty on which one decides that has committed at most 100,000 has a spelling
abbrev pub DecidedIsSpelled : Type 0
DecidedIsSpelled = (setup : Setup) (batches : List Batch) (r : Replica) (batch : Batch) → setup.replicas ≤ 8 → length batches ≤ 100000 → HasCommitted setup batches r → IsDecided setup (view_of r) batch → batch.items ≢ [] → IsBatch setup.replicas batch.items
