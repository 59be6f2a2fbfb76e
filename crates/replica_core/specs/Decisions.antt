-- What a replica decides by itself, and what it commits.
use Rattle.std.specs.Prelude.{◌≡◌, ◌⊎◌, ℕ, ◌+◌, List, [], ◌∷◌, ◌++◌, drop, take, Option, Some, None, Contains}
use Rattle.std.specs.List.{AllByRecursion}
use Rattle.spec_model.specs.declared.plan.Setup.{Setup}
use Rattle.spec_model.specs.declared.clause.Broken.{Broken}
use Rattle.spec_model.specs.declared.right.Lacking.{Lacking}
use Rattle.spec_model.specs.declared.right.Want.{Want}
use Rattle.spec_model.specs.declared.instance.Inst.{Inst}
use Rattle.spec_model.specs.declared.log.Body.TheVariants as body
use Rattle.spec_model.specs.declared.log.LogItem.{LogItem}
use Rattle.spec_model.specs.Truths.{Truths}
use Rattle.spec_model.specs.Fits.{InstFits}
use Rattle.spec_model.specs.Breaks.{broken_by}
use Rattle.spec_model.specs.Needs.{needs}
use Rattle.run_model.specs.declared.message.Message.{Message}
use Rattle.run_model.specs.declared.batch.Batch.{Batch}
use Rattle.run_model.specs.declared.step.Outcome.{Outcome}
use Rattle.run_model.specs.Levels.{first_lacking}
use Rattle.run_model.specs.Wants.{still_wanted, want_of}
use Rattle.run_model.specs.Fitting.{MessageFits, NeedFits, WantFits}
use Rattle.run_model.specs.Holding.{held_of}
use Rattle.run_model.specs.States.{truths_in}
use Rattle.causal_store.specs.Stores.{HasRoomFor}
use Rattle.rights_table.specs.Whole.{HasEntriesFor}
use Rattle.message_laws.specs.Heeded.{MayApply}
use Rattle.message_laws.specs.Views.{View, item_of, own_items}
use Rattle.message_drafts.specs.Taking.{IsTaken, TakesHeeded}
use Rattle.message_drafts.specs.declared.taken.Taken.{Taken}
use Rattle.replica_core.specs.Replicas.{HasAnswered, HasRoom, HasTaken, IsReplica, holds_of, known_to, view_of}
use Rattle.replica_core.specs.declared.decision.Decision.{Decision}
use Rattle.replica_core.specs.declared.decision.Decision.TheVariants as decision
use Rattle.replica_core.specs.declared.replica.Replica.{Replica}

-- the truths of all that it has seen
abbrev pub truths_here : Setup → View → Truths
truths_here setup v = truths_in setup.spec v.known v.cut

-- the first clause and elements that an effect would break there
abbrev pub broken_here : Setup → Inst → View → Option Broken
broken_here setup inst v = broken_by setup.spec (truths_here setup v) inst

-- the first need that it doesn't meet, with what is held of it
abbrev pub lacking_here : Setup → Inst → View → Option Lacking
lacking_here setup inst v = first_lacking setup.replicas (held_of setup v.known v.me (own_items v)) (needs setup (truths_here setup v) inst)

-- what it decides on a request: that a clause would break, else that it is short of the first need that it doesn't meet, else one act, with all that it has seen in its past
abbrev pub Decides : Setup → Inst → View → Decision → Type 0
Decides setup inst v (decision.Breaks broken) = broken_here setup inst v ≡ Some broken
Decides setup inst v (decision.Short lacking) = (lacking_here setup inst v ≡ Some lacking) × WantFits setup (want_of lacking.need) × (broken_here setup inst v ≡ None)
Decides setup inst v (decision.Act batch) = (lacking_here setup inst v ≡ None) × (batch.items ≡ item_of v (body.Act inst) ∷ []) × (broken_here setup inst v ≡ None)

-- it decided on this batch, of a request or of a message
abbrev pub IsDecided : Setup → View → Batch → Type 0
IsDecided setup v batch =
    ((inst : Inst) × InstFits setup.spec inst × Decides setup inst v (decision.Act batch))
    ⊎ ((message : Message) × (taken : Taken) × TakesHeeded setup v message taken × (taken.batch ≡ batch))

-- a message that replica r heeds whole: it fits, and its items may be applied
pub record IsHeeded (setup : Setup) (r : Replica) (message : Message) : Type 0 where
  pub fits : MessageFits setup r.me message
  pub may : MayApply setup (view_of r) message.from message.items

-- the batch of a take, cut into its three parts
pub record Splits (setup : Setup) (message : Message) (r : Replica) (taken : Taken) (front accepts outs : List LogItem) : Type 0 where
  pub own : IsReplica setup r.me r
  pub heeded : IsHeeded setup r message
  pub decided : IsTaken setup message (view_of r) taken
  pub front_is : front ≡ take taken.applied taken.batch.items
  pub accepts_are : accepts ≡ take taken.accepted (drop taken.applied taken.batch.items)
  pub outs_are : outs ≡ drop taken.accepted (drop taken.applied taken.batch.items)

-- room was made for these items: in the store, and in the table; and the needs of an act among those of its own log are kept
pub record IsReadyFor (setup : Setup) (r : Replica) (items : List LogItem) : Type 0 where
  pub room : HasRoomFor r.store items
  pub entries : HasEntriesFor setup items r.needs r.table
  pub fits : AllByRecursion (NeedFits setup) r.needs
  pub needs : (item : LogItem) (inst : Inst) → Contains items item → item.origin ≡ r.me → item.body ≡ body.Act inst → r.needs ≡ needs setup (truths_in setup.spec (known_to r) item.deps) inst

-- the one replica decides by what the other does, wants and was told the same, and what comes of a decision is the same
pub record StaysSame (setup : Setup) (old new : Replica) : Type 0 where
  pub own : IsReplica setup old.me new
  pub view : view_of new ≡ view_of old
  pub wants : new.wants ≡ old.wants
  pub told : new.told ≡ old.told
  pub room : (n : ℕ) → HasRoom n old → HasRoom n new
  pub answered : (inst : Inst) (outcome : Outcome) (last : Replica) → HasAnswered setup inst new outcome last → HasAnswered setup inst old outcome last
  pub took : (message : Message) (outcome : Outcome) (last : Replica) → HasTaken setup message new outcome last → HasTaken setup message old outcome last

-- its wants without the one at this place, if that is met
abbrev pub kept_at : Setup → Replica → ℕ → List Want
kept_at setup r place = take place r.wants ++ (still_wanted setup.replicas (holds_of setup r) (take 1 (drop place r.wants)) ++ drop (place + 1) r.wants)
