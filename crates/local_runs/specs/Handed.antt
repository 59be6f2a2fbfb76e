-- The steps of a replica by itself, which takes what messages it is given.
use Rattle.std.specs.Prelude.{◌≡◌, ◌≢◌, ◌⊎◌, ℕ, ◌<◌, ◌≤◌, List, [], ◌∷◌, ◌++◌, length, ◌==◌, if◌then◌else◌, Option, Some, None}
use Rattle.std.specs.List.{flat_map}
use Rattle.spec_model.specs.declared.plan.Setup.{Setup}
use Rattle.spec_model.specs.Fits.{InstFits}
use Rattle.run_model.specs.declared.message.Message.{Message}
use Rattle.run_model.specs.declared.step.Ask.{Ask}
use Rattle.run_model.specs.declared.step.Ask.TheVariants as asks
use Rattle.run_model.specs.declared.step.Outcome.TheVariants as outcomes
use Rattle.run_model.specs.declared.step.StepEntry.{StepEntry}
use Rattle.run_model.specs.Locals.{Local, LocalSteps}
use Rattle.run_model.specs.Steps.{next_stamp}
use Rattle.run_model.specs.Worlds.{Running, Up, Down, Sending, sent_to}
use Rattle.message_laws.specs.Heeded.{IsHeededWhole}
use Rattle.message_laws.specs.Views.{view_in}

-- ---- what is at hand

-- the step that sent a message
abbrev pub sending_of : Message → Sending
sending_of message = record { to = message.to; stamp = message.stamp; message = Some message }

abbrev pub heard_of : Option Message → Option Sending
heard_of None = None
heard_of (Some message) = Some (sending_of message)

-- a take with a number is of a replica that is up and has in hand the message with that number of the replica that it names; all else has none
abbrev pub IsInHand : Ask → Running → Option Message → Type 0
IsInHand (asks.Take from (Some number)) Up hand = (message : Message) × (hand ≡ Some message) × (message.from ≡ from) × (message.number ≡ number)
IsInHand (asks.Take from (Some number)) (Down pending) hand = ⊥
IsInHand ask running hand = hand ≡ None

-- a message in hand is heeded whole
abbrev pub IsHeeded : Setup → ℕ → Local → Option Message → Type 0
IsHeeded setup me l None = Unit {0}
IsHeeded setup me l (Some message) = IsHeededWhole setup (view_in me l) message

-- ---- what is asked, and what it puts on a link

-- another replica
abbrev pub IsPeer : Setup → ℕ → ℕ → Type 0
IsPeer setup me peer = (peer < setup.replicas) × (peer ≢ me)

-- an instance of the specification, or another replica
abbrev pub AskFits : Setup → ℕ → Ask → Type 0
AskFits setup me (asks.Do inst) = InstFits setup.spec inst
AskFits setup me (asks.Send to number) = IsPeer setup me to
AskFits setup me (asks.Take from number) = IsPeer setup me from
AskFits setup me asks.Crash = Unit {0}
AskFits setup me asks.Recover = Unit {0}

-- the message is from replica me to that one, with this stamp and with the number of those before it
pub record IsNext (me to number stamp : ℕ) (before : List Sending) (message : Message) : Type 0 where
  pub sender : message.from ≡ me
  pub receiver : message.to ≡ to
  pub numbered : message.number ≡ number
  pub stamped : message.stamp ≡ stamp
  pub counted : number ≡ length (sent_to to before)

-- a send with a number puts one message, where these were sent before; all else puts none
abbrev pub Puts : ℕ → Ask → ℕ → List Sending → List Sending → Type 0
Puts me (asks.Send to (Some number)) stamp before put = (message : Message) × IsNext me to number stamp before message × (put ≡ sending_of message ∷ [])
Puts me ask stamp before put = put ≡ []

-- ---- the steps

-- a send to that replica whose link had no room
pub record IsRefused (to : ℕ) (entry : StepEntry) : Type 0 where
  pub asked : entry.ask ≡ asks.Send to None
  pub outcome : entry.outcome ≡ outcomes.Full

-- a replica that is up finds no room on the link, and stays as it was but for its stamp
pub record FindsFull (entry : StepEntry) (old new : Local) : Type 0 where
  pub to : ℕ
  pub refused : IsRefused to entry
  pub up : old.standing.running ≡ Up
  pub stays : new ≡ record old { standing = record old.standing { stamp = entry.stamp } }

-- a step of replica me: where it heeds whole what it has in hand, that is a step of a replica of a run, or a send whose link was full
pub record HandSteps (setup : Setup) (me : ℕ) (hand : Option Message) (old : Local) (entry : StepEntry) (new : Local) : Type 0 where
  pub replica : entry.replica ≡ me
  pub fits : AskFits setup me entry.ask
  pub in_hand : IsInHand entry.ask old.standing.running hand
  pub stamp : entry.stamp ≡ next_stamp old.standing.stamp (heard_of hand)
  pub stamp_kept : new.standing.stamp ≡ entry.stamp
  pub put : List Sending
  pub puts : Puts me entry.ask entry.stamp old.standing.sendings put
  pub sendings : new.standing.sendings ≡ old.standing.sendings ++ put
  pub short : length new.standing.log ≤ 4194304
  pub step : IsHeeded setup me old hand → LocalSteps setup me (heard_of hand) old entry new ⊎ FindsFull entry old new

-- a step, with what it had in hand
pub record Handed : Type 0 where
  pub entry : StepEntry
  pub hand : Option Message

-- the steps, one after the other, lead from the one to the other
abbrev pub HandRuns : Setup → ℕ → Local → List Handed → Local → Type 0
HandRuns setup me old [] new = new ≡ old
HandRuns setup me old (s ∷ steps) new = (middle : Local) × HandSteps setup me s.hand old s.entry middle × HandRuns setup me middle steps new

-- ---- what they took

-- the message in hand, if it is from this replica
abbrev pub hand_from : ℕ → Option Message → List Message
hand_from from None = []
hand_from from (Some message) = if message.from == from then message ∷ [] else []

-- the messages from this replica that the steps had in hand
abbrev pub taken_from : ℕ → List Handed → List Message
taken_from from steps = flat_map (λ s. hand_from from s.hand) steps
