-- The closing takes of a replica: those of the messages that were left on the links to it.
use Rattle.std.specs.Prelude.{◌≡◌, ◌≢◌, ◌⊎◌, ℕ, ◌++◌, List, [], ◌∷◌, Some, None}
use Rattle.spec_model.specs.declared.plan.Setup.{Setup}
use Rattle.run_model.specs.declared.batch.Batch.{Batch}
use Rattle.run_model.specs.declared.message.Message.{Message}
use Rattle.run_model.specs.declared.step.Ask.TheVariants as asks
use Rattle.run_model.specs.declared.step.Outcome.TheVariants as outcomes
use Rattle.run_model.specs.declared.step.StepEntry.{StepEntry}
use Rattle.run_model.specs.Worlds.{Running, Up}
use Rattle.batch_storage.specs.Shown.{Shown}
use Rattle.local_runs.specs.Alone.{IsFront}
use Rattle.replica_course.specs.Courses.{HasStops, running_of}
use Rattle.replica_course.specs.declared.course.Course.{Course}
use Rattle.replica_node.specs.Nodes.{IsStill, in_hand}
use Rattle.replica_node.specs.Steps.{IsOf}
use Rattle.replica_node.specs.declared.still.Still.{Still}

-- the take of a message that was left: with its number, or of a replica that is down
abbrev pub IsClosing : Message → StepEntry → Type 0
IsClosing message e = (e.ask ≡ asks.Take message.from (Some message.number)) ⊎ ((e.ask ≡ asks.Take message.from None) × (e.outcome ≡ outcomes.Down))

-- one for each of these messages, in order
abbrev pub AreClosing : List Message → List StepEntry → Type 0
AreClosing [] [] = Unit {0}
AreClosing [] (e ∷ entries) = ⊥
AreClosing (message ∷ left) [] = ⊥
AreClosing (message ∷ left) (e ∷ entries) = IsClosing message e × AreClosing left entries

-- those stand behind the entries that there were
pub record AddsClosing (left : List Message) (old new : Course) : Type 0 where
  pub closing : List StepEntry
  pub are : AreClosing left closing
  pub entries : new.entries ≡ old.entries ++ closing

-- of what was left of replica from it took a front, and all where it is still up; of others it took nothing more
pub record TakesFront {S D : Type 0} (keeps : S → ℕ → List Batch → Running → Type 0) (setup : Setup) (me from : ℕ) (left : List Message) (taken put : ℕ → List Message) (now : Still S D) : Type 0 where
  pub after : ℕ → List Message
  pub still : IsStill keeps setup me after put now
  pub front : List Message
  pub is_front : IsFront front left
  pub all : running_of now.course ≡ Up → front ≡ left
  pub took : after from ≡ taken from ++ front
  pub others : (j : ℕ) → j ≢ from → after j ≡ taken j

-- what was in hand of replica from, or left on its link, was taken of it, in order: by one that is down none. In hand of others is what was
pub record HasReceived {S D : Type 0} (keeps : S → ℕ → List Batch → Running → Type 0) (shows : S → Shown) (setup : Setup) (from : ℕ) (left : List Message) (old now : Still S D) : Type 0 where
  pub takes : (taken put : ℕ → List Message) → IsStill keeps setup old.course.me taken put old → TakesFront keeps setup old.course.me from left taken put now
  pub emptied : in_hand now.hands from ≡ []
  pub held : (j : ℕ) → j ≢ from → in_hand now.hands j ≡ in_hand old.hands j
  pub same : IsOf old.course now.course
  pub closing : AddsClosing left old.course now.course
  pub stops : (given : ℕ) → HasStops given (shows old.storage) old.course → HasStops given (shows now.storage) now.course
