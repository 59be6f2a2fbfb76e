-- Replicas that take the lines of a schedule, as the definitions of runs see them.
use Rattle.std.specs.Prelude.{◌≡◌, ℕ, ◌*◌, ◌<◌, ◌≤◌, List, length, map, slice_get, Some}
use Rattle.std.specs.List.{AllByRecursion}
use Rattle.spec_model.specs.declared.plan.Setup.{Setup}
use Rattle.run_model.specs.declared.batch.Batch.{Batch}
use Rattle.run_model.specs.declared.step.Order.{Order}
use Rattle.run_model.specs.declared.step.StepEntry.{StepEntry}
use Rattle.run_model.specs.Logs.{log_at}
use Rattle.run_model.specs.Locals.{StandsIn}
use Rattle.run_model.specs.Runs.{InOrder, Runs, asks_in, asks_of, entries_at}
use Rattle.run_model.specs.Worlds.{Running, World, first_world, logs_of}
use Rattle.batch_storage.specs.Kept.{StillKeeps}
use Rattle.batch_storage.specs.Shown.{Shown}
use Rattle.scenario_text.specs.WellFormed.{OrderFits}
use Rattle.replica_course.specs.Courses.{HasStops, IsCourse, local_of, running_of}
use Rattle.replica_course.specs.declared.course.Course.{Course}
use Rattle.replica_course.specs.declared.heard.Heard.{Heard}
use Rattle.replica_world.specs.Links.{AreLinks, sendings_at}

-- replica me of a world, after so many steps of all
pub record IsHere (setup : Setup) (steps : ℕ) (entries : List StepEntry) (world : World) (me : ℕ) (c : Course) : Type 0 where
  pub own : IsCourse setup me c
  pub stands : StandsIn world me (local_of setup.replicas (sendings_at world me) c)
  pub entries_are : c.entries ≡ entries_at me entries
  pub in_order : InOrder c.entries
  pub before : AllByRecursion (λ e. e.stamp ≤ c.stamp) c.entries
  pub stamp : c.stamp ≤ steps

-- the replicas and links after these orders: a run that answers them has led to the world in which they stand
pub record AreRunning (setup : Setup) (done : List Order) (courses : List Course) (links : List (List Heard)) : Type 0 where
  pub entries : List StepEntry
  pub world : World
  pub runs : Runs setup (first_world setup.replicas (map (λ c. c.first_up) courses)) entries world
  pub within : AllByRecursion (λ e. e.replica < setup.replicas) entries
  pub fit : AllByRecursion (OrderFits setup.spec setup.replicas) done
  pub asked : (me : ℕ) → asks_in (entries_at me entries) ≡ asks_of me done
  pub whole : length courses ≡ setup.replicas
  pub world_whole : length world ≡ setup.replicas
  pub each : (me : ℕ) (c : Course) → slice_get courses me ≡ Some c → IsHere setup (length done) entries world me c
  pub short : (j : ℕ) → length (log_at (logs_of world) j) ≤ 24 * length done
  pub linked : AreLinks setup done world links

-- each replica's storage keeps what it kept, and what is pending
pub record AreKept {S : Type 0} (keeps : S → ℕ → List Batch → Running → Type 0) (setup : Setup) (courses : List Course) (storages : List S) : Type 0 where
  pub whole : length storages ≡ length courses
  pub each : (me : ℕ) (c : Course) (s : S) → slice_get courses me ≡ Some c → slice_get storages me ≡ Some s → keeps s setup.replicas c.kept (running_of c)

-- whatever replica me kept on its disk it keeps still
abbrev pub StillKeepsAt : {S : Type 0} → (S → ℕ → List Batch → Running → Type 0) → Setup → ℕ → List S → List S → Type 0
StillKeepsAt keeps setup me old new = (s t : _) → slice_get old me ≡ Some s → slice_get new me ≡ Some t → StillKeeps (keeps s setup.replicas) (keeps t setup.replicas)

-- a replica's disk has these stops still
abbrev pub HasStopsAt : {S : Type 0} → (S → Shown) → List Course → List S → ℕ → ℕ → Type 0
HasStopsAt shows courses storages me given = (c : Course) (s : _) → slice_get courses me ≡ Some c → slice_get storages me ≡ Some s → HasStops given (shows s) c
