-- What replicas served by themselves is a legal run.
use Rattle.std.specs.Prelude.{◌≡◌, ℕ, ◌≤◌, List, length, map, slice_get, Some}
use Rattle.spec_model.specs.declared.plan.Setup.{Setup}
use Rattle.run_model.specs.declared.message.Message.{Message}
use Rattle.run_model.specs.declared.step.StepEntry.{StepEntry}
use Rattle.run_model.specs.Sound.{IsSettled}
use Rattle.run_model.specs.Locals.{StandsIn}
use Rattle.run_model.specs.Worlds.{Sending, World}
use Rattle.run_trace.specs.Merging.{AreHistories, IsMerged}
use Rattle.replica_course.specs.Courses.{history_of, local_of}
use Rattle.replica_course.specs.declared.course.Course.{Course}
use Rattle.client_asks.specs.Asking.{ClientWork}
use Rattle.client_runs.specs.Alone.{HaveServed}
use Rattle.client_runs.specs.Serving.{IsServedRun}

-- the world of such a run, in which each replica stands as it does by itself
pub record AreServedRun (setup : Setup) (work : ClientWork) (courses : List Course) (entries : List StepEntry) (world : World) : Type 0 where
  pub run : IsServedRun setup work (map (history_of setup) courses) entries world
  pub whole : length world ≡ setup.replicas
  pub stand : (me : ℕ) (c : Course) → slice_get courses me ≡ Some c → (sendings : List Sending) × StandsIn world me (local_of setup.replicas sendings c)

-- what replicas served by themselves, whose links were settled, by a plan that is enough: each has its history, and all entries in one order are a legal run of the clients' work, which is sound at each step
abbrev pub ServedIsLegal : Type 0
ServedIsLegal = (setup : Setup) (work : ClientWork) (courses : List Course) (taken put : ℕ → ℕ → List Message) → IsSettled setup → setup.replicas ≤ 16 → HaveServed setup work courses taken put
    → AreHistories (map (history_of setup) courses)
    × ((entries : List StepEntry) → IsMerged (map (history_of setup) courses) entries → (world : World) × AreServedRun setup work courses entries world)
