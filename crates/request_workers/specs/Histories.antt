-- Histories of a legal run, and what the bay of its disks tells of it.
use Rattle.std.specs.Prelude.{◌≡◌, ◌+◌, ◌<◌, ◌≤◌, ℕ, List, [], ◌∷◌, ◌++◌, length, map, filter, ◌==◌, Bool, slice_get, Some}
use Rattle.spec_model.specs.declared.plan.Setup.{Setup}
use Rattle.ind_disk.specs.Bay.{CameBack, Returned, with_one}
use Rattle.ind_disk.specs.declared.stop.Stop.{Stop}
use Rattle.run_model.specs.declared.step.Order.{Order}
use Rattle.run_model.specs.declared.step.StepEntry.{StepEntry}
use Rattle.run_model.specs.declared.history.History.{History}
use Rattle.run_model.specs.Worlds.{Standing, World, logs_of}
use Rattle.run_model.specs.Runs.{IsLegal, entries_at}
use Rattle.run_model.specs.Sound.{AtEachStep, IsSound}
use Rattle.run_model.specs.Finals.{lasts_from}
use Rattle.run_trace.specs.Merging.{AreHistories, IsMerged}
use Rattle.rights_journal.specs.Image.{IsFinished, StandsFor}
use Rattle.batch_storage.specs.Held.{IsLeftBy}
use Rattle.replica_course.specs.Courses.{failures}
use Rattle.scenario_text.specs.declared.document.StopLine.{StopLine}
use Rattle.client_runs.specs.Serving.{ups_of}

-- one history for each replica, whose entries in one order are a legal run of the schedule from the world in which those that were up are up, which is sound at each step and leaves this world; each ends as its replica does
pub record AreLegal (setup : Setup) (schedule : List Order) (histories : List History) (world : World) : Type 0 where
  pub whole : length histories ≡ setup.replicas
  pub own : AreHistories histories
  pub legal : (entries : List StepEntry) → IsMerged histories entries → IsLegal setup schedule (ups_of histories) entries world
  pub sound : (entries : List StepEntry) → IsMerged histories entries → AtEachStep setup (ups_of histories) entries (IsSound setup)
  pub lasts : map (λ h. h.last) histories ≡ lasts_from setup (logs_of world) 0 world

-- the stops that these lines name for replica r, in their order
abbrev pub stops_of : ℕ → List StopLine → List Stop
stops_of r lines = map (λ line. line.stop) (filter (λ line. line.replica == r) lines)

-- a bay at the start and at the end of a call: whether it is telling, and for each replica the lists of stops with which it gave disks, and what came back
pub record Bays : Type 0 where
  pub tells : Bool
  pub given_before : ℕ → List (List Stop)
  pub given_after : ℕ → List (List Stop)
  pub left_before : ℕ → CameBack
  pub left_after : ℕ → CameBack

-- one disk came back, of which this holds
abbrev pub ComesBack : CameBack → CameBack → (Returned → Type 0) → Type 0
ComesBack before after P = (back : Returned) × (after ≡ with_one before back) × P back

-- the disk of a replica that is up at the end is a finished journal of the batches that the replica kept; that of one that is down is what a journal may leave of these, or of these and what is pending
abbrev pub HasJournal : ℕ → Standing → Returned → Type 0
HasJournal replicas p back = IsLeftBy (IsFinished replicas) (StandsFor replicas) p.kept p.running back.bytes

-- a disk that was given so many stops and failed so often: those that are left on it are no more than the rest
abbrev pub HasSpent : ℕ → ℕ → Returned → Type 0
HasSpent given failed back = failed + back.stops_left ≤ given

-- what a telling bay tells of a run of these replicas: it was asked for one disk for each, with the stops that the lines name for it; one came back for each and for no other, each failure of it spent one of its stops, and it is the journal of its replica
pub record BayTells (setup : Setup) (lines : List StopLine) (ups : List Bool) (entries : List StepEntry) (world : World) (bays : Bays) : Type 0 where
  pub asked : (r : ℕ) → r < setup.replicas → bays.given_after r ≡ bays.given_before r ++ stops_of r lines ∷ []
  pub nothing_else : (r : ℕ) → setup.replicas ≤ r → bays.given_after r ≡ bays.given_before r
  pub stops : (r : ℕ) (up : Bool) → slice_get ups r ≡ Some up → ComesBack (bays.left_before r) (bays.left_after r) (HasSpent (length (stops_of r lines)) (failures up (entries_at r entries)))
  pub journals : (r : ℕ) (p : Standing) → slice_get world r ≡ Some p → ComesBack (bays.left_before r) (bays.left_after r) (HasJournal setup.replicas p)
  pub nothing_more : (r : ℕ) → setup.replicas ≤ r → bays.left_after r ≡ bays.left_before r
