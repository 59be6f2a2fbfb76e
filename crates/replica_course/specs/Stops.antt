-- What a recovery finds, and what it makes of that.
use Rattle.std.specs.Prelude.{◌≡◌, ◌≢◌, ℕ, ◌+◌, ◌<◌, [], ◌∷◌, ◌++◌, length, max, min, Option, Some, None}
use Rattle.spec_model.specs.declared.plan.Setup.{Setup}
use Rattle.run_model.specs.declared.batch.Batch.{Batch}
use Rattle.run_model.specs.declared.step.Ask.TheVariants as asks
use Rattle.run_model.specs.declared.step.Outcome.{Outcome}
use Rattle.run_model.specs.declared.step.Outcome.TheVariants as outcomes
use Rattle.run_model.specs.Worlds.{Up}
use Rattle.batch_storage.specs.declared.storage.Found.{Found}
use Rattle.batch_storage.specs.declared.storage.Found.TheVariants as found
use Rattle.replica_core.specs.Decisions.{IsReadyFor}
use Rattle.replica_core.specs.Recovered.{IsRecovered}
use Rattle.replica_core.specs.declared.replica.Replica.{Replica}
use Rattle.replica_course.specs.Courses.{IsCourse, running_of}
use Rattle.replica_course.specs.Parts.{entry_of, with_room}
use Rattle.replica_course.specs.Steps.{CourseSteps, last_stamp}
use Rattle.replica_course.specs.declared.answer.Answer.{Answer}
use Rattle.replica_course.specs.declared.course.Course.{Course}
use Rattle.replica_course.specs.declared.course.State.{State}
use Rattle.replica_course.specs.declared.course.State.TheVariants as states
use Rattle.replica_course.specs.declared.heard.Heard.TheVariants as heard

-- what is pending
abbrev pub pending_in : State → Option Batch
pending_in (states.Up r) = None
pending_in (states.Down pending) = pending

-- without it, it was lost, if there was one
abbrev pub without_it : Option Batch → Outcome
without_it None = outcomes.Same
without_it (Some batch) = outcomes.Lost

-- room was made for what is pending
abbrev pub IsReadyToo : Setup → Option Batch → Replica → Type 0
IsReadyToo setup None r = Unit {0}
IsReadyToo setup (Some batch) r = IsReadyFor setup r batch.items

-- a replica with what was kept, and with room for what is pending
pub record IsPrepared (setup : Setup) (c : Course) (r : Replica) : Type 0 where
  pub recovered : IsRecovered setup c.me c.kept r
  pub ready : IsReadyToo setup (pending_in c.state) r

-- a start finds a batch more only where one is pending
abbrev pub CanFind : Found → Option Batch → Type 0
CanFind found.Broken pending = Unit {0}
CanFind found.Without pending = Unit {0}
CanFind found.With pending = (batch : Batch) × (pending ≡ Some batch)

-- what is kept then, and whether it is up
abbrev pub KeepsSo : Found → Course → Course → Type 0
KeepsSo found.Broken old new = (new.kept ≡ old.kept) × (running_of new ≡ running_of old)
KeepsSo found.Without old new = (new.kept ≡ old.kept) × (running_of new ≡ Up)
KeepsSo found.With old new = (batch : Batch) × (pending_in old.state ≡ Some batch) × (new.kept ≡ old.kept ++ batch ∷ []) × (running_of new ≡ Up)

-- a recovery, with its next stamp, that has all room, and whose replica is prepared
pub record IsRecovering (setup : Setup) (stamp : ℕ) (r : Replica) (old now : Course) : Type 0 where
  pub own : IsCourse setup old.me old
  pub down : running_of old ≢ Up
  pub few : length old.entries < 100000
  pub prepared : IsPrepared setup old r
  pub stamp_is : stamp ≡ min (max old.stamp 0 + 1) last_stamp
  pub room : now ≡ with_room (entry_of old stamp asks.Recover outcomes.DiskBroken) old

-- it took its step by what the start found
pub record HasRecovered (setup : Setup) (what : Found) (old : Course) (answer : Answer) (new : Course) : Type 0 where
  pub own : IsCourse setup old.me new
  pub steps : CourseSteps setup asks.Recover heard.Nothing old answer new
  pub keeps : KeepsSo what old new
  pub broken : answer.entry.outcome ≡ outcomes.DiskBroken → what ≡ found.Broken
