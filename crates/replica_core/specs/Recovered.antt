-- A replica that is made again from the batches that it committed.
use Rattle.std.specs.Prelude.{◌≡◌, ℕ, ◌+◌, ◌≤◌, List, [], ◌∷◌, length, replicate, Some}
use Rattle.std.specs.List.{AllByRecursion}
use Rattle.spec_model.specs.declared.plan.Setup.{Setup}
use Rattle.spec_model.specs.declared.instance.Inst.{Inst}
use Rattle.spec_model.specs.declared.log.LogItem.{LogItem}
use Rattle.spec_model.specs.Changes.{effect_lines}
use Rattle.spec_model.specs.Needs.{needs}
use Rattle.spec_model.specs.Truths.{Truths}
use Rattle.run_model.specs.declared.batch.Batch.{Batch}
use Rattle.run_model.specs.Worlds.{no_told}
use Rattle.run_model.specs.Fitting.{NeedFits}
use Rattle.rights_table.specs.Cells.{AreCellsEntered}
use Rattle.rights_table.specs.Whole.{AreNeedsEntered}
use Rattle.replica_core.specs.Next.{act_among}
use Rattle.replica_core.specs.Decisions.{IsDecided}
use Rattle.run_model.specs.Batches.{items_of}
use Rattle.run_model.specs.Logs.{Logs, with_all}
use Rattle.replica_core.specs.Replicas.{IsReplica, known_to, own_log}
use Rattle.message_laws.specs.Views.{seeing}
use Rattle.replica_core.specs.declared.replica.Replica.{Replica}

-- the items of a batch were applied and logged again; what is wanted and was told is as it was
pub record HasReplayed (setup : Setup) (items : List LogItem) (old new : Replica) : Type 0 where
  pub own : IsReplica setup old.me new
  pub knows : known_to new ≡ with_all items (known_to old)
  pub wants : new.wants ≡ old.wants
  pub told : new.told ≡ old.told
  pub grown : length (own_log new) ≤ length (own_log old) + 24

-- there are entries for what an act of its own changes and needs, and its needs are kept, whatever the truths before it are
pub record IsReadied (setup : Setup) (inst : Inst) (r : Replica) : Type 0 where
  pub cells : AreCellsEntered setup.spec inst (effect_lines setup.spec inst) r.table
  pub needed : AreNeedsEntered r.needs r.table
  pub fits : AllByRecursion (NeedFits setup) r.needs
  pub needs : (s : Truths) → r.needs ≡ needs setup s inst

-- so it is where these items are one act of its own and no masks look at the truths
abbrev pub IsReadiedBy : Setup → List LogItem → Replica → Type 0
IsReadiedBy setup items r = setup.plan.masks ≡ [] → (inst : Inst) → act_among r.me items ≡ Some inst → IsReadied setup inst r

-- replica me decides on each of the batches, where it knows these logs and the items of the batches before
abbrev pub AreDecided : Setup → ℕ → Logs → List Batch → Type 0
AreDecided setup me logs [] = Unit {0}
AreDecided setup me logs (batch ∷ batches) = IsDecided setup (seeing me logs) batch × AreDecided setup me (with_all batch.items logs) batches

-- so many empty logs
abbrev pub no_logs : ℕ → Logs
no_logs replicas = replicate replicas []

-- the logs once the items of these batches are applied and logged
abbrev pub logs_after : ℕ → List Batch → Logs
logs_after replicas batches = with_all (items_of batches) (no_logs replicas)

-- replica me decides on these batches from its first step on
abbrev pub AreCommitted : Setup → ℕ → List Batch → Type 0
AreCommitted setup me batches = AreDecided setup me (no_logs setup.replicas) batches

-- a replica that has committed these batches, and nothing else
pub record HasCommitted (setup : Setup) (batches : List Batch) (r : Replica) : Type 0 where
  pub own : IsReplica setup r.me r
  pub decided : AreCommitted setup r.me batches
  pub knows : known_to r ≡ logs_after setup.replicas batches

-- replica me with the items of all these batches, which wants nothing and was told nothing
pub record IsRecovered (setup : Setup) (me : ℕ) (batches : List Batch) (r : Replica) : Type 0 where
  pub own : IsReplica setup me r
  pub knows : known_to r ≡ logs_after setup.replicas batches
  pub wants : r.wants ≡ []
  pub told : r.told ≡ no_told setup.replicas
