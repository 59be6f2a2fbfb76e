-- The histories of replicas whose links were settled.
use Rattle.std.specs.Prelude.{◌≡◌, ◌≢◌, ℕ, ◌<◌, ◌≤◌, List, length, map, slice_get, Some}
use Rattle.std.specs.List.{AllByRecursion}
use Rattle.spec_model.specs.declared.plan.Setup.{Setup}
use Rattle.run_model.specs.declared.message.Message.{Message}
use Rattle.run_model.specs.declared.step.StepEntry.{StepEntry}
use Rattle.run_model.specs.Locals.{StandsIn}
use Rattle.run_model.specs.Runs.{InOrder, Runs, entries_at}
use Rattle.run_model.specs.Sound.{IsSettled}
use Rattle.run_model.specs.Worlds.{Sending, World, first_world}
use Rattle.local_runs.specs.Alone.{IsBareWhereDown, IsFront, RunsAlone}
use Rattle.local_runs.specs.Handed.{IsRefused}
use Rattle.replica_course.specs.Courses.{local_of}
use Rattle.replica_course.specs.declared.course.Course.{Course}

-- each is a replica by itself that took these messages and put those; from each link a front of what was put there was taken, and none was full
pub record AreClosed (setup : Setup) (courses : List Course) (taken put : ℕ → ℕ → List Message) : Type 0 where
  pub whole : length courses ≡ setup.replicas
  pub each : (me : ℕ) (c : Course) → slice_get courses me ≡ Some c → (sendings : List Sending) × RunsAlone setup me c.first_up (taken me) (put me) c.entries (local_of setup.replicas sendings c)
  pub passed : (me from : ℕ) → me < setup.replicas → from < setup.replicas → from ≢ me → IsFront (taken me from) (put from me)
  pub never_full : (me : ℕ) (c : Course) → slice_get courses me ≡ Some c → AllByRecursion (λ e. (to : ℕ) → IsRefused to e → ⊥) c.entries

-- all their entries in one order
pub record AreJoined (setup : Setup) (courses : List Course) (entries : List StepEntry) : Type 0 where
  pub in_order : InOrder entries
  pub within : AllByRecursion (λ e. e.replica < setup.replicas) entries
  pub each : (me : ℕ) (c : Course) → slice_get courses me ≡ Some c → entries_at me entries ≡ c.entries

-- the world of a run in which all of them stand; one that was down put and got nothing
pub record AreOneRun (setup : Setup) (courses : List Course) (entries : List StepEntry) (world : World) : Type 0 where
  pub runs : Runs setup (first_world setup.replicas (map (λ c. c.first_up) courses)) entries world
  pub stand : (me : ℕ) (c : Course) → slice_get courses me ≡ Some c → (sendings : List Sending) × StandsIn world me (local_of setup.replicas sendings c)
  pub bare : AllByRecursion IsBareWhereDown entries

-- what such replicas did is one run by a plan that is enough
abbrev pub ClosedIsOneRun : Type 0
ClosedIsOneRun = (setup : Setup) (courses : List Course) (taken put : ℕ → ℕ → List Message) (entries : List StepEntry)
    → IsSettled setup → setup.replicas ≤ 16 → AreClosed setup courses taken put → AreJoined setup courses entries → (world : World) × AreOneRun setup courses entries world
