-- A replica of the code, as the definitions of runs see it.
use Rattle.std.specs.Prelude.{◌≡◌, ℕ, ◌+◌, ◌<◌, ◌≤◌, List, length, slice_set}
use Rattle.std.specs.List.{AllByRecursion}
use Rattle.spec_model.specs.declared.plan.Setup.{Setup}
use Rattle.spec_model.specs.declared.spec.Spec.{Spec}
use Rattle.spec_model.specs.declared.instance.Inst.{Inst}
use Rattle.spec_model.specs.declared.log.Body.{Body}
use Rattle.spec_model.specs.declared.log.LogItem.{LogItem}
use Rattle.spec_model.specs.declared.right.Need.{Need}
use Rattle.spec_model.specs.declared.right.Held.{Held}
use Rattle.run_model.specs.declared.batch.Batch.{Batch}
use Rattle.run_model.specs.declared.message.Message.{Message}
use Rattle.run_model.specs.declared.step.Outcome.{Outcome}
use Rattle.run_model.specs.Logs.{Logs, log_at, with_all}
use Rattle.run_model.specs.Holding.{held_of}
use Rattle.run_model.specs.Worlds.{Standing, Sending, Up, logged, logged_all}
use Rattle.run_model.specs.Steps.{Requests, Takes}
use Rattle.run_model.specs.Fitting.{AreInRow, IsPlaced, SetupFits, WantFits}
use Rattle.causal_store.specs.Stores.{IsStore, cut_in, logs_in}
use Rattle.rights_table.specs.Whole.{HasAll}
use Rattle.message_laws.specs.Heeded.{with_items}
use Rattle.message_laws.specs.Views.{IsView, View}
use Rattle.replica_core.specs.declared.replica.Replica.{Replica}

-- the logs that it knows
abbrev pub known_to : Replica → Logs
known_to r = logs_in r.store

-- its own log
abbrev pub own_log : Replica → List LogItem
own_log r = log_at (known_to r) r.me

-- what it decides by
abbrev pub view_of : Replica → View
view_of r = record { me = r.me; known = known_to r; cut = cut_in r.store }

-- how it stands in a world, by its last stamp, the steps in which it sent and the batches that it kept
abbrev pub standing_of : ℕ → List Sending → List Batch → Replica → Standing
standing_of stamp sendings kept r = record {
  log = own_log r;
  cut = cut_in r.store;
  stamp = stamp;
  wants = r.wants;
  told = r.told;
  sendings = sendings;
  running = Up;
  kept = kept;
}

-- what it holds of what is needed
abbrev pub holds_of : Setup → Replica → Need → Held
holds_of setup r need = held_of setup (known_to r) r.me (own_log r) need

-- replica me: the logs that it knows, what it holds, wants and was told
pub record IsReplica (setup : Setup) (me : ℕ) (r : Replica) : Type 0 where
  pub me_is : r.me ≡ me
  pub setup_fits : SetupFits setup
  pub store : IsStore setup.spec setup.replicas r.store
  pub view : IsView setup (view_of r)
  pub all : HasAll setup (known_to r) r.me (own_log r) r.table
  pub wants : AllByRecursion (WantFits setup) r.wants
  pub few_wants : length r.wants ≤ 8
  pub told : length r.told ≡ setup.replicas
  pub told_each : AllByRecursion (λ cut. length cut ≡ setup.replicas) r.told

-- it may log so many more items of its own: at most 2 ^ 22
abbrev pub HasRoom : ℕ → Replica → Type 0
HasRoom n r = length (own_log r) + n ≤ 4194304

-- its own log has grown to this, and all else that it knows is as before
abbrev pub KnowsOwn : Logs → Replica → Type 0
KnowsOwn known r = known_to r ≡ slice_set known r.me (own_log r)

-- the replica once it has logged this body, and stands as the definitions say
pub record HasLogged (setup : Setup) (b : Body) (old new : Replica) : Type 0 where
  pub own : IsReplica setup old.me new
  pub stands : (stamp : ℕ) (sendings : List Sending) (kept : List Batch) → standing_of stamp sendings kept new ≡ logged old.me b (standing_of stamp sendings kept old)
  pub knows : KnowsOwn (known_to old) new

-- or several bodies
pub record HasLoggedAll (setup : Setup) (bodies : List Body) (old new : Replica) : Type 0 where
  pub own : IsReplica setup old.me new
  pub stands : (stamp : ℕ) (sendings : List Sending) (kept : List Batch) → standing_of stamp sendings kept new ≡ logged_all old.me bodies (standing_of stamp sendings kept old)
  pub knows : KnowsOwn (known_to old) new

-- a request was answered so
pub record HasAnswered (setup : Setup) (inst : Inst) (old : Replica) (outcome : Outcome) (new : Replica) : Type 0 where
  pub own : IsReplica setup old.me new
  pub requests : (stamp : ℕ) (sendings : List Sending) (kept : List Batch) → Requests setup (known_to old) old.me inst (standing_of stamp sendings kept old) outcome (standing_of stamp sendings kept new)
  pub knows : KnowsOwn (known_to old) new
  pub grown : length (own_log new) ≤ length (own_log old) + 1

-- these are the next items of another log, which the store may apply
pub record CanLearn (spec : Spec) (r : Replica) (items : List LogItem) : Type 0 where
  pub from : ℕ
  pub store : IsStore spec (length (known_to r)) r.store
  pub place : from < length (known_to r)
  pub row : AreInRow from (length (log_at (known_to r) from)) items
  pub fits : AllByRecursion (IsPlaced (length (known_to r))) items

-- these items stand at the end of the log that they are of, and all else is as it was
pub record HasLearned (spec : Spec) (items : List LogItem) (old new : Replica) : Type 0 where
  pub kept : new ≡ record old { store = new.store }
  pub store : IsStore spec (length (known_to old)) new.store
  pub logs : (from : ℕ) → AreInRow from (length (log_at (known_to old) from)) items → from < length (known_to old) → known_to new ≡ with_items from items (known_to old)

-- a message was taken so
pub record HasTaken (setup : Setup) (message : Message) (old : Replica) (outcome : Outcome) (new : Replica) : Type 0 where
  pub own : IsReplica setup old.me new
  pub applied : List LogItem
  pub takes : (stamp : ℕ) (sendings : List Sending) (kept : List Batch)
      → Takes setup (with_all applied (known_to old)) old.me message applied (standing_of stamp sendings kept old) outcome (standing_of stamp sendings kept new)
  pub knows : KnowsOwn (with_all applied (known_to old)) new
  pub grown : length (own_log new) ≤ length (own_log old) + 24
