use Rattle.std.specs.Prelude.{◌≡◌, ℕ, ◌≤◌, ◌*◌, [], drop, length, replicate, take}
use Rattle.std.specs.List.{flat_map}
use Rattle.run_model.specs.Logs.{log_at, with_all}
use Rattle.run_model.specs.Worlds.{no_cut}
use Rattle.replica_core.specs.Recovered.{AreDecided, IsReadiedBy}
use Rattle.replica_core.specs.Replicas.{IsReplica, known_to, own_log}
use Rattle.replica_core.proofs.replica.Replica.recover.Given as goal

-- the batches so far were replayed, and it would decide on the others
abbrev pub invariant-loop-batch : goal.invariant-loop-batch
invariant-loop-batch l = record {
  own : IsReplica l.setup l.me l.replica;
  knows : known_to l.replica ≡ with_all (flat_map (λ batch. batch.items) (take l.batch-index l.batches)) (replicate l.setup.replicas []);
  wants : l.replica.wants ≡ [];
  told : l.replica.told ≡ replicate l.setup.replicas (no_cut l.setup.replicas);
  rest : AreDecided l.setup l.me (known_to l.replica) (drop l.batch-index l.batches);
  short : length (own_log l.replica) ≤ l.batch-index * 24;
  readied : IsReadiedBy l.setup l.last l.replica;
  each : (j : ℕ) → length (log_at (known_to l.replica) j) ≤ l.batch-index * 40;
}
