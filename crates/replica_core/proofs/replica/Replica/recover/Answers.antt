use Rattle.std.proofs.Common.{[], ◌+◌, List, length, drop, replicate, sym, ap, ◌∙◌, subst, arith}
use Rattle.spec_model.specs.declared.log.LogItem.{LogItem}
use Rattle.run_model.specs.declared.batch.Batch.{Batch}
use Rattle.replica_core.specs.Recovered.{AreDecided, IsReadiedBy}
use Rattle.replica_core.specs.Replicas.{IsReplica}
use Rattle.replica_core.proofs.Changes.{own_again}
use Rattle.run_model.specs.Logs.{Logs, log_at, with_all}
use Rattle.replica_core.specs.Replicas.{known_to}
use Rattle.replica_core.proofs.Replayed.{all_more, decided_next, decided_short, logs_short, with_all_long}
use Rattle.replica_core.proofs.replica.Replica.recover.Goals as goal

pub replay_ready-requires-clause-own : goal.replay_ready-requires-clause-own
replay_ready-requires-clause-own c = own_again c.args.setup.now c.args.me c.loop-batch.replica c.loop-batch.invariant.own

pub replay_ready-requires-clause-decided : goal.replay_ready-requires-clause-decided
replay_ready-requires-clause-decided c = (decided_next c.args.setup.now c.args.me c.loop-batch.replica c.args.batches.now c.loop-batch.batch-index c.batch-item.result c.loop-batch.invariant.own c.loop-batch-test.true c.batch-item.is c.loop-batch.invariant.rest).0

pub replay_ready-requires-clause-room : goal.replay_ready-requires-clause-room
replay_ready-requires-clause-room c = omega (arith, c.loop-batch.invariant.short, c.loop-batch-test.true, c.requires.few_batches)

pub loop-batch-preserved : goal.loop-batch-preserved
loop-batch-preserved c =
    let setup = c.args.setup.now in
    let batches : List Batch = c.args.batches.now in
    let k = c.loop-batch.batch-index in
    let x : Batch = c.batch-item.result in
    let old = c.loop-batch.replica in
    let h = c.in_ok-replay_ready.ensures.replayed in
    let rest = decided_next setup c.args.me old batches k x c.loop-batch.invariant.own c.loop-batch-test.true c.batch-item.is c.loop-batch.invariant.rest in
    record {
      own = subst (λ i. IsReplica setup i c.replay_ready.new.self) c.loop-batch.invariant.own.me_is h.own;
      knows = h.knows ∙ ap (with_all x.items) c.loop-batch.invariant.knows ∙ all_more batches k x (replicate setup.replicas []) c.loop-batch-test.true c.batch-item.is;
      wants = h.wants ∙ c.loop-batch.invariant.wants;
      told = h.told ∙ c.loop-batch.invariant.told;
      rest = subst (λ (l : Logs). AreDecided setup c.args.me l (drop (k + 1) batches)) (sym h.knows) rest.1;
      short = omega (arith, c.loop-batch.invariant.short, h.grown);
      readied = subst (λ (l : List LogItem). IsReadiedBy setup l c.replay_ready.new.self) (sym c.as_slice-last.ensures.value) c.in_ok-replay_ready.ensures.readied;
      each = λ j.
          let few = decided_short setup old x (own_again setup c.args.me old c.loop-batch.invariant.own) rest.0 in
          let was = c.loop-batch.invariant.each j in
          let more = with_all_long x.items (known_to old) j in
          omega (arith, few, was, more, ap (λ (l : Logs). length (log_at l j)) h.knows);
    }

pub returns-clause-short : goal.returns-clause-short
returns-clause-short c = logs_short 4194304 (known_to c.loop-batch.replica) (λ j. omega (arith, c.loop-batch.invariant.each j, c.loop-batch.auto.batch-index-end, c.requires.few_batches))
