-- A replica over its storage and its ends, as the definitions of runs see it.
use Rattle.std.specs.Prelude.{◌≡◌, ◌≢◌, ℕ, ◌+◌, ◌<◌, ◌≤◌, List, [], ◌∷◌, ◌++◌, length, filter, ◌==◌, slice_get, slice_index_or, Bool, true, false, Option, Some, None}
use Rattle.std.specs.List.{AllByRecursion}
use Rattle.spec_model.specs.declared.plan.Setup.{Setup}
use Rattle.run_model.specs.declared.batch.Batch.{Batch}
use Rattle.run_model.specs.declared.message.Message.{Message}
use Rattle.run_model.specs.declared.step.Ask.{Ask}
use Rattle.run_model.specs.declared.step.Ask.TheVariants as asks
use Rattle.run_model.specs.declared.step.StepEntry.{StepEntry}
use Rattle.run_model.specs.Worlds.{Running, Up, Sending, sent_to}
use Rattle.local_runs.specs.Alone.{RunsAlone}
use Rattle.local_runs.specs.Handed.{HandSteps, IsPeer, IsRefused}
use Rattle.replica_course.specs.Courses.{IsCourse, local_of, running_of}
use Rattle.replica_course.specs.Steps.{SentFits, sent_by}
use Rattle.replica_course.specs.declared.answer.Answer.{Answer}
use Rattle.replica_course.specs.declared.heard.Heard.{Heard}
use Rattle.replica_course.specs.declared.heard.Heard.TheVariants as heard
use Rattle.replica_node.specs.Steps.{CourseAdds}
use Rattle.replica_node.specs.declared.still.Still.{Still}
use Rattle.replica_node.specs.declared.node.Node.{Node}

-- ---- messages in hand

-- nothing, or a message from this replica
abbrev pub IsHandFrom : ℕ → Heard → Type 0
IsHandFrom from heard.Nothing = Unit {0}
IsHandFrom from (heard.Unsent stamp) = ⊥
IsHandFrom from (heard.Message message) = message.from ≡ from

-- nothing, or a message
abbrev pub IsHand : Heard → Type 0
IsHand heard.Nothing = Unit {0}
IsHand (heard.Unsent stamp) = ⊥
IsHand (heard.Message message) = Unit {0}

abbrev pub message_in : Heard → Option Message
message_in heard.Nothing = None
message_in (heard.Unsent stamp) = None
message_in (heard.Message message) = Some message

abbrev pub as_list : Option Message → List Message
as_list None = []
as_list (Some message) = message ∷ []

-- what is in hand of this replica: a message that was got, and of which no step was taken for want of memory
abbrev pub in_hand : List Heard → ℕ → List Message
in_hand hands from = as_list (message_in (slice_index_or hands from heard.Nothing))

-- the number of what is in hand
abbrev pub number_in : Heard → Option ℕ
number_in heard.Nothing = None
number_in (heard.Unsent stamp) = None
number_in (heard.Message message) = Some message.number

-- ---- sends

abbrev pub asks_send : ℕ → Ask → Bool
asks_send to (asks.Send peer number) = peer == to
asks_send to ask = false

-- how many of these entries were asked to send to that replica
abbrev pub sends_to : ℕ → List StepEntry → ℕ
sends_to to entries = length (filter (λ e. asks_send to e.ask) entries)

-- ---- the replica

-- without its ends: its history is that of a replica by itself, which took these messages and put those
pub record IsStill {S D : Type 0} (keeps : S → ℕ → List Batch → Running → Type 0) (setup : Setup) (me : ℕ) (taken put : ℕ → List Message) (s : Still S D) : Type 0 where
  pub own : IsCourse setup me s.course
  pub kept : keeps s.storage setup.replicas s.course.kept (running_of s.course)
  pub sendings : List Sending
  pub alone : RunsAlone setup me s.course.first_up taken put s.course.entries (local_of setup.replicas sendings s.course)
  pub hands : length s.hands ≡ setup.replicas
  pub from : (k : ℕ) (h : Heard) → slice_get s.hands k ≡ Some h → IsHandFrom k h

-- whatever it took and put before a call, it is such a replica after it, has put no more, and no message that was in hand is lost
abbrev pub StaysStill : {S D : Type 0} → (S → ℕ → List Batch → Running → Type 0) → Setup → ℕ → Still S D → Still S D → Type 0
StaysStill keeps setup me old new =
    (taken put : ℕ → List Message) → IsStill keeps setup me taken put old
    → (after : ℕ → List Message) × IsStill keeps setup me after put new × ((from : ℕ) → after from ++ in_hand new.hands from ≡ taken from ++ in_hand old.hands from)

-- with them: what it put there are the messages that it sent, and what it got those that it took, and what is still in hand; and where a send found no room, more sends were asked for than there is room
pub record IsNode {S E D M : Type 0} (keeps : S → ℕ → List Batch → Running → Type 0) (mark : E → M) (owner : M → ℕ) (reaches : M → ℕ → Type 0) (room : M → ℕ → ℕ) (puts gots : E → ℕ → List Message) (setup : Setup) (me : ℕ) (n : Node S E D M) : Type 0 where
  pub taken : ℕ → List Message
  pub still : IsStill keeps setup me taken (puts n.ends) n.still
  pub got : (from : ℕ) → gots n.ends from ≡ taken from ++ in_hand n.still.hands from
  pub counted : (to : ℕ) → IsPeer setup me to → slice_get n.counts to ≡ Some (length (puts n.ends to))
  pub asked : (to : ℕ) → length (puts n.ends to) ≤ sends_to to n.still.course.entries
  pub full : AllByRecursion (λ e. (to : ℕ) → IsRefused to e → room (mark n.ends) to < sends_to to n.still.course.entries) n.still.course.entries
  pub owned : owner (mark n.ends) ≡ me
  pub peers : (to : ℕ) → IsPeer setup me to → reaches (mark n.ends) to

-- a send of the next message for another replica, which is made but not put yet
pub record IsSending {S E D M : Type 0} (keeps : S → ℕ → List Batch → Running → Type 0) (mark : E → M) (owner : M → ℕ) (reaches : M → ℕ → Type 0) (room : M → ℕ → ℕ) (puts gots : E → ℕ → List Message) (setup : Setup) (to number : ℕ) (answer : Answer) (old now : Node S E D M) : Type 0 where
  pub was : IsNode keeps mark owner reaches room puts gots setup old.still.course.me old
  pub up : running_of old.still.course ≡ Up
  pub few : length old.still.course.entries < 100000
  pub becomes : now ≡ record old { still = record old.still { course = now.still.course; storage = now.still.storage } }
  pub own : IsCourse setup old.still.course.me now.still.course
  pub kept : keeps now.still.storage setup.replicas now.still.course.kept (running_of now.still.course)
  pub peer : IsPeer setup old.still.course.me to
  pub counted : number ≡ length (puts old.ends to)
  pub adds : CourseAdds (asks.Send to (Some number)) old.still.course answer now.still.course
  pub fits : SentFits setup old.still.course.me (asks.Send to (Some number)) answer.entry.stamp answer.sent
  pub steps : (sendings : List Sending) → number ≡ length (sent_to to sendings)
      → HandSteps setup old.still.course.me None (local_of setup.replicas sendings old.still.course) answer.entry (local_of setup.replicas (sendings ++ sent_by (asks.Send to (Some number)) answer.entry.stamp answer.sent) now.still.course)
