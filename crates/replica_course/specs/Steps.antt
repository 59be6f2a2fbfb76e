-- The steps of a replica through its stops.
use Rattle.std.specs.Prelude.{◌≡◌, ◌≢◌, ℕ, ◌<◌, ◌^◌, ◌-◌, List, [], ◌∷◌, ◌++◌, length, min, Option, Some, None, Result, Ok, Err}
use Rattle.spec_model.specs.declared.plan.Setup.{Setup}
use Rattle.spec_model.specs.Fits.{InstFits}
use Rattle.run_model.specs.declared.message.Message.{Message}
use Rattle.run_model.specs.declared.step.Ask.{Ask}
use Rattle.run_model.specs.declared.step.Ask.TheVariants as asks
use Rattle.run_model.specs.declared.step.Outcome.{Outcome}
use Rattle.run_model.specs.declared.step.Outcome.TheVariants as outcomes
use Rattle.run_model.specs.Fitting.{MessageFits}
use Rattle.run_model.specs.Locals.{LocalSteps}
use Rattle.run_model.specs.Steps.{next_stamp}
use Rattle.run_model.specs.Worlds.{Running, Up, Down, Sending, sent_to}
use Rattle.message_laws.specs.Heeded.{IsHeededWhole}
use Rattle.replica_course.specs.Courses.{local_of, view_of}
use Rattle.replica_course.specs.declared.course.Course.{Course}
use Rattle.replica_course.specs.declared.heard.Heard.{Heard}
use Rattle.replica_course.specs.declared.heard.Heard.TheVariants as heard
use Rattle.replica_course.specs.declared.answer.Answer.{Answer}

-- ---- what is asked, and what is at hand

-- another replica
abbrev pub IsPeer : ℕ → ℕ → ℕ → Type 0
IsPeer replicas me peer = (peer < replicas) × (peer ≢ me)

-- an instance of the specification, or another replica; a send of a replica that is up has a number
abbrev pub AskFits : Setup → ℕ → Running → Ask → Type 0
AskFits setup me running (asks.Do inst) = InstFits setup.spec inst
AskFits setup me Up (asks.Send to number) = IsPeer setup.replicas me to × (number ≢ None)
AskFits setup me (Down pending) (asks.Send to number) = IsPeer setup.replicas me to
AskFits setup me running (asks.Take from number) = IsPeer setup.replicas me from
AskFits setup me running asks.Crash = Unit {0}
AskFits setup me running asks.Recover = Unit {0}

-- a message that a take has in hand is the one with this number from this replica
abbrev pub IsNamed : ℕ → Option ℕ → Message → Type 0
IsNamed from number message = (message.from ≡ from) × (number ≡ Some message.number)

-- a take with a number, of a replica that is up, has a message in hand, or the stamp of a step that sent none; all else has nothing
abbrev pub HasInHand : Ask → Running → Heard → Type 0
HasInHand (asks.Take from number) Up (heard.Message message) = IsNamed from number message
HasInHand (asks.Take from number) Up (heard.Unsent stamp) = number ≢ None
HasInHand (asks.Take from number) Up heard.Nothing = number ≡ None
HasInHand (asks.Take from number) (Down pending) h = h ≡ heard.Nothing
HasInHand (asks.Do inst) running h = h ≡ heard.Nothing
HasInHand (asks.Send to number) running h = h ≡ heard.Nothing
HasInHand asks.Crash running h = h ≡ heard.Nothing
HasInHand asks.Recover running h = h ≡ heard.Nothing

-- the step that sent what is in hand
abbrev pub sending_of : Message → Sending
sending_of message = record { to = message.to; stamp = message.stamp; message = Some message }

abbrev pub heard_of : ℕ → Heard → Option Sending
heard_of me heard.Nothing = None
heard_of me (heard.Unsent stamp) = Some (record { to = me; stamp = stamp; message = None })
heard_of me (heard.Message message) = Some (sending_of message)

-- a message in hand is heeded whole
abbrev pub IsWhole : Setup → ℕ → Course → Heard → Type 0
IsWhole setup me c heard.Nothing = Unit {0}
IsWhole setup me c (heard.Unsent stamp) = Unit {0}
IsWhole setup me c (heard.Message message) = IsHeededWhole setup (view_of setup.replicas c) message

-- ---- the step

-- a send has the number of those before it to the same replica
abbrev pub IsCounted : Ask → List Sending → Type 0
IsCounted (asks.Do inst) sendings = Unit {0}
IsCounted (asks.Send to None) sendings = Unit {0}
IsCounted (asks.Send to (Some number)) sendings = number ≡ length (sent_to to sendings)
IsCounted (asks.Take from number) sendings = Unit {0}
IsCounted asks.Crash sendings = Unit {0}
IsCounted asks.Recover sendings = Unit {0}

-- the steps that sent, of this one: a send with a number, whatever it sent
abbrev pub sent_by : Ask → ℕ → Option Message → List Sending
sent_by (asks.Do inst) stamp sent = []
sent_by (asks.Send to None) stamp sent = []
sent_by (asks.Send to (Some number)) stamp sent = record { to = to; stamp = stamp; message = sent } ∷ []
sent_by (asks.Take from number) stamp sent = []
sent_by asks.Crash stamp sent = []
sent_by asks.Recover stamp sent = []

-- the greatest stamp
abbrev pub last_stamp : ℕ
last_stamp = 2 ^ 64 - 1

-- what is sent fits, and is from this replica, with this stamp
abbrev pub SentFits : Setup → ℕ → Ask → ℕ → Option Message → Type 0
SentFits setup me (asks.Send to number) stamp (Some message) = MessageFits setup to message × IsNamed me number message × (message.to ≡ to) × (message.stamp ≡ stamp)
SentFits setup me ask stamp None = Unit {0}
SentFits setup me ask stamp (Some message) = ⊥

-- a step that is asked this and has that in hand: its entry stands behind the others, with the next stamp, or the greatest. It is a step of a replica of a run, if a message in hand is heeded whole and the stamp has room
pub record CourseSteps (setup : Setup) (ask : Ask) (h : Heard) (old : Course) (answer : Answer) (new : Course) : Type 0 where
  pub asked : answer.entry.ask ≡ ask
  pub replica : answer.entry.replica ≡ old.me
  pub stamp : answer.entry.stamp ≡ min (next_stamp old.stamp (heard_of old.me h)) last_stamp
  pub stamp_kept : new.stamp ≡ answer.entry.stamp
  pub entries : new.entries ≡ old.entries ++ answer.entry ∷ []
  pub first_up : new.first_up ≡ old.first_up
  pub sent : SentFits setup old.me ask answer.entry.stamp answer.sent
  pub step : (sendings : List Sending) → IsCounted ask sendings → IsWhole setup old.me old h → next_stamp old.stamp (heard_of old.me h) < 2 ^ 64
      → LocalSteps setup old.me (heard_of old.me h) (local_of setup.replicas sendings old) answer.entry (local_of setup.replicas (sendings ++ sent_by ask answer.entry.stamp answer.sent) new)

-- the answer is that the disk failed
abbrev pub IsBroken : Outcome → Type 0
IsBroken outcome = outcome ≡ outcomes.DiskBroken

abbrev pub BreaksDisk : {E : Type 0} → Result Answer E → Type 0
BreaksDisk (Ok answer) = IsBroken answer.entry.outcome
BreaksDisk (Err e) = ⊥
