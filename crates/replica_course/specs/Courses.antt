-- A replica through its stops, as the definitions of runs see it.
use Rattle.std.specs.Prelude.{◌≡◌, ◌≢◌, ℕ, ◌<◌, ◌≤◌, ◌+◌, List, [], length, filter, Bool, true, false, if◌then◌else◌, IsTrue, Some, None}
use Rattle.spec_model.specs.declared.plan.Setup.{Setup}
use Rattle.spec_model.specs.declared.right.Want.{Want}
use Rattle.run_model.specs.declared.batch.Batch.{Batch}
use Rattle.run_model.specs.declared.history.History.{History}
use Rattle.run_model.specs.declared.step.Outcome.{Outcome}
use Rattle.run_model.specs.declared.step.Outcome.TheVariants as outcomes
use Rattle.run_model.specs.declared.step.StepEntry.{StepEntry}
use Rattle.run_model.specs.Finals.{final_of, last_of}
use Rattle.run_model.specs.Fitting.{SetupFits}
use Rattle.run_model.specs.Logs.{log_at}
use Rattle.run_model.specs.Locals.{Local, first_local}
use Rattle.run_model.specs.Worlds.{Running, Sending, Standing, no_told}
use Rattle.run_model.specs.Worlds as worlds
use Rattle.batch_storage.specs.Shown.{Shown}
use Rattle.message_laws.specs.Views.{View, seeing}
use Rattle.replica_core.specs.Decisions.{IsDecided}
use Rattle.replica_core.specs.Recovered.{AreCommitted, HasCommitted, logs_after}
use Rattle.replica_course.specs.declared.course.Course.{Course}
use Rattle.replica_course.specs.declared.course.State.{State}
use Rattle.replica_course.specs.declared.course.State.TheVariants as states

-- ---- what is seen of it

abbrev pub running_in : State → Running
running_in (states.Up r) = worlds.Up
running_in (states.Down pending) = worlds.Down pending

abbrev pub running_of : Course → Running
running_of c = running_in c.state

-- what it wants, and what it was told by so many replicas: down it has forgotten both
abbrev pub wants_in : State → List Want
wants_in (states.Up r) = r.wants
wants_in (states.Down pending) = []

abbrev pub told_in : ℕ → State → List (List ℕ)
told_in replicas (states.Up r) = r.told
told_in replicas (states.Down pending) = no_told replicas

-- what it decides by: the batches that it kept tell all that it knows
abbrev pub view_of : ℕ → Course → View
view_of replicas c = seeing c.me (logs_after replicas c.kept)

-- how it stands among so many replicas, having sent this
abbrev pub standing_of : ℕ → List Sending → Course → Standing
standing_of replicas sendings c =
    let v = view_of replicas c in record {
      log = log_at v.known c.me;
      cut = v.cut;
      stamp = c.stamp;
      wants = wants_in c.state;
      told = told_in replicas c.state;
      sendings = sendings;
      running = running_of c;
      kept = c.kept;
    }

abbrev pub local_of : ℕ → List Sending → Course → Local
local_of replicas sendings c = record { standing = standing_of replicas sendings c; known = (view_of replicas c).known }

-- ---- what holds of it

-- up, it has committed just these batches; down, it had decided on what is pending when it knew these
abbrev pub IsState : Setup → ℕ → List Batch → State → Type 0
IsState setup me kept (states.Up r) = (r.me ≡ me) × HasCommitted setup kept r
IsState setup me kept (states.Down None) = Unit {0}
IsState setup me kept (states.Down (Some batch)) = IsDecided setup (seeing me (logs_after setup.replicas kept)) batch × (batch.items ≢ [])

-- replica me of at most 8, which has kept at most a batch at each of its steps, on each of which it had decided when it knew those before
pub record IsCourse (setup : Setup) (me : ℕ) (c : Course) : Type 0 where
  pub me_is : c.me ≡ me
  pub within : me < setup.replicas
  pub few : setup.replicas ≤ 8
  pub fits : SetupFits setup
  pub committed : AreCommitted setup me c.kept
  pub few_kept : length c.kept ≤ length c.entries
  pub state : IsState setup me c.kept c.state

-- before its first step
pub record IsFirst (setup : Setup) (me : ℕ) (up : Bool) (c : Course) : Type 0 where
  pub own : IsCourse setup me c
  pub first_up : c.first_up ≡ up
  pub stands : local_of setup.replicas [] c ≡ first_local setup.replicas up
  pub entries : c.entries ≡ []

-- the same but for room: it stands as it did, and its history is the same
pub record IsAsBefore (old new : Course) : Type 0 where
  pub me : new.me ≡ old.me
  pub first_up : new.first_up ≡ old.first_up
  pub entries : new.entries ≡ old.entries
  pub stands : (replicas : ℕ) (sendings : List Sending) → local_of replicas sendings new ≡ local_of replicas sendings old

-- ---- what it shows

-- an answer that the disk failed
abbrev pub is_broken : Outcome → Bool
is_broken outcomes.DiskBroken = true
is_broken outcome = false

-- how often its disk failed: at the start, if it began down, and at these steps
abbrev pub failures : Bool → List StepEntry → ℕ
failures first_up entries = (if first_up then 0 else 1) + length (filter (λ e. is_broken e.outcome) entries)

-- over a disk that tells its bytes and its stops, of which so many were given: those left, and those at which it failed
pub record HasStops (given : ℕ) (s : Shown) (c : Course) : Type 0 where
  pub tells : IsTrue s.tells
  pub tells_stops : IsTrue s.tells_stops
  pub few : failures c.first_up c.entries + s.stops_left ≤ given

-- what it did, and how it stands at the end
abbrev pub history_of : Setup → Course → History
history_of setup c = record {
  replica = c.me;
  first_up = c.first_up;
  entries = c.entries;
  last = last_of (running_of c) (final_of setup (view_of setup.replicas c).known c.me (standing_of setup.replicas [] c));
}
