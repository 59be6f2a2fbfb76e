-- Laws of requests and of what is committed.
use Rattle.std.specs.Prelude.{◌≡◌, ◌≢◌, ℕ, ◌*◌, ◌≤◌, List, [], ◌∷◌, ◌++◌, length, map}
use Rattle.spec_model.specs.declared.plan.Setup.{Setup}
use Rattle.spec_model.specs.declared.clause.Broken.{Broken}
use Rattle.spec_model.specs.declared.instance.Inst.{Inst}
use Rattle.spec_model.specs.declared.log.LogItem.{LogItem}
use Rattle.run_model.specs.declared.batch.Batch.{Batch}
use Rattle.run_model.specs.declared.step.Outcome.TheVariants as outcomes
use Rattle.run_model.specs.Fitting.{AreInRow}
use Rattle.run_model.specs.Logs.{cut_after, log_at, with_all}
use Rattle.run_model.specs.Worlds.{others_of, own_of}
use Rattle.message_laws.specs.Views.{IsView, View}
use Rattle.replica_core.specs.Decisions.{Decides, IsDecided}
use Rattle.replica_core.specs.Recovered.{AreCommitted, HasCommitted, logs_after}
use Rattle.replica_core.specs.Replicas.{HasAnswered, IsReplica, known_to, view_of}
use Rattle.replica_core.specs.declared.decision.Decision.TheVariants as decision
use Rattle.replica_core.specs.declared.replica.Replica.{Replica}

-- a request whose effect would break a clause leaves the replica as it is
abbrev pub BreaksChangeNothing : Type 0
BreaksChangeNothing = (setup : Setup) (r : Replica) (inst : Inst) (broken : Broken) → IsReplica setup r.me r → Decides setup inst (view_of r) (decision.Breaks broken) → HasAnswered setup inst r (outcomes.Breaks broken) r

-- where a replica decides on one batch more, and knows then the items of that too, it has committed it
abbrev pub CommitsMore : Type 0
CommitsMore = (setup : Setup) (batches : List Batch) (batch : Batch) (old new : Replica) → HasCommitted setup batches old → IsDecided setup (view_of old) batch → IsReplica setup old.me new
    → known_to new ≡ with_all batch.items (known_to old) → HasCommitted setup (batches ++ batch ∷ []) new

-- what a replica knows grows by these items: the next ones of the log of one other replica, and then at most 24 of its own, which its cut counts with all others
pub record GrowsBy (v : View) (items : List LogItem) : Type 0 where
  pub parted : items ≡ others_of v.me items ++ own_of v.me items
  pub from : ℕ
  pub other : from ≢ v.me
  pub row : AreInRow from (length (log_at v.known from)) (others_of v.me items)
  pub few : length (own_of v.me items) ≤ 24
  pub cut : cut_after v.cut items ≡ map (λ log. length log) (with_all items v.known)

-- whoever decides on a batch grows by its items so, and the own log has at most 24 items for each batch that was committed
pub record DecidedGrow : Type 0 where
  pub grows : (setup : Setup) (v : View) (batch : Batch) → IsView setup v → IsDecided setup v batch → GrowsBy v batch.items
  pub own : (setup : Setup) (me : ℕ) (batches : List Batch) → AreCommitted setup me batches → length (log_at (logs_after setup.replicas batches) me) ≤ 24 * length batches
