-- What the parts of a step do.
use Rattle.std.specs.Prelude.{◌≡◌, ◌≢◌, ℕ, ◌+◌, ◌<◌, max, min, List, [], ◌∷◌, ◌++◌, length, Bool, true, false, Some, None, Result, Ok, Err}
use Rattle.spec_model.specs.declared.plan.Setup.{Setup}
use Rattle.spec_model.specs.declared.instance.Inst.{Inst}
use Rattle.spec_model.specs.declared.log.LogItem.{LogItem}
use Rattle.spec_model.specs.declared.right.Lacking.{Lacking}
use Rattle.spec_model.specs.Fits.{InstFits}
use Rattle.run_model.specs.declared.batch.Batch.{Batch}
use Rattle.run_model.specs.declared.message.Message.{Message}
use Rattle.run_model.specs.declared.step.Ask.{Ask}
use Rattle.run_model.specs.declared.step.Ask.TheVariants as asks
use Rattle.run_model.specs.declared.step.Outcome.{Outcome}
use Rattle.run_model.specs.declared.step.Outcome.TheVariants as outcomes
use Rattle.run_model.specs.declared.step.StepEntry.{StepEntry}
use Rattle.run_model.specs.Logs.{with_all}
use Rattle.message_laws.specs.Heeded.{Heeds}
use Rattle.message_drafts.specs.Taking.{IsTaken, TakesHeeded}
use Rattle.message_drafts.specs.declared.taken.Taken.{Taken}
use Rattle.replica_core.specs.Decisions.{Decides, IsReadyFor, StaysSame}
use Rattle.replica_core.specs.Recovered.{no_logs}
use Rattle.replica_core.specs.Replicas.{HasAnswered, HasRoom, HasTaken, IsReplica, known_to, own_log, standing_of, view_of}
use Rattle.replica_core.specs.declared.decision.Decision.TheVariants as decision
use Rattle.replica_core.specs.declared.replica.Replica.{Replica}
use Rattle.run_model.specs.Worlds.{Up, first_standing}
use Rattle.replica_course.specs.Courses as views
use Rattle.replica_course.specs.Courses.{IsAsBefore, IsCourse, running_of}
use Rattle.replica_course.specs.Steps.{CourseSteps, last_stamp}
use Rattle.replica_course.specs.declared.answer.Answer.{Answer}
use Rattle.replica_course.specs.declared.course.Course.{Course}
use Rattle.replica_course.specs.declared.course.State.{State}
use Rattle.replica_course.specs.declared.course.State.TheVariants as states
use Rattle.replica_course.specs.declared.heard.Heard.{Heard}
use Rattle.replica_course.specs.declared.heard.Heard.TheVariants as heard

-- ---- what is written

-- the stamp of the step that sent what is in hand
abbrev pub stamp_of : Heard → ℕ
stamp_of heard.Nothing = 0
stamp_of (heard.Unsent stamp) = stamp
stamp_of (heard.Message message) = message.stamp

-- the entry of a step of this replica
abbrev pub entry_of : Course → ℕ → Ask → Outcome → StepEntry
entry_of c stamp ask outcome = record { stamp = stamp; replica = c.me; ask = ask; outcome = outcome }

-- with one entry more, whose stamp is the last one
abbrev pub with_entry : StepEntry → Course → Course
with_entry entry c = record c { entries = c.entries ++ entry ∷ []; stamp = entry.stamp }

-- no batch: it stands where one is to be put
abbrev pub no_batch : Batch
no_batch = record { items = [] }

-- with room for a batch, behind which this entry is to stand
abbrev pub with_room : StepEntry → Course → Course
with_room entry c = record c { entries = c.entries ++ entry ∷ []; kept = c.kept ++ no_batch ∷ [] }

-- with one entry and one batch more
abbrev pub with_both : StepEntry → Batch → Course → Course
with_both entry batch c = record c { entries = c.entries ++ entry ∷ []; kept = c.kept ++ batch ∷ []; stamp = entry.stamp }

-- up with a replica that has done nothing, or down with nothing pending
abbrev pub IsBegun : Setup → ℕ → Bool → State → Type 0
IsBegun setup me true (states.Up r) = IsReplica setup me r × (standing_of 0 [] [] r ≡ first_standing setup.replicas true) × (known_to r ≡ no_logs setup.replicas)
IsBegun setup me false (states.Down None) = Unit {0}
IsBegun setup me up state = ⊥

-- ---- how a step ends

-- with an answer it has taken a step; without memory it is as before
abbrev pub HasEnded : Setup → Ask → Heard → Course → Course → {E : Type 0} → Result Answer E → Type 0
HasEnded setup ask h old new (Ok answer) = IsCourse setup old.me new × CourseSteps setup ask h old answer new
HasEnded setup ask h old new (Err e) = IsCourse setup old.me new × IsAsBefore old new

-- nothing was kept, and it is as much up or down as before
pub record StaysKept (old new : Course) : Type 0 where
  pub kept : new.kept ≡ old.kept
  pub running : running_of new ≡ running_of old

-- a replica that is up answers these without its disk, and stays as it is
abbrev pub RestsUp : Ask → Heard → Outcome → Type 0
RestsUp (asks.Take from None) heard.Nothing outcome = outcome ≡ outcomes.Idle
RestsUp (asks.Take from (Some number)) (heard.Unsent stamp) outcome = outcome ≡ outcomes.Unsent
RestsUp asks.Recover heard.Nothing outcome = outcome ≡ outcomes.Up
RestsUp ask h outcome = ⊥

-- a take
abbrev pub IsTake : Ask → Type 0
IsTake (asks.Take from number) = Unit {0}
IsTake ask = ⊥

-- one that is down answers all but a recovery so
abbrev pub RestsDown : ℕ → Ask → Type 0
RestsDown me (asks.Do inst) = Unit {0}
RestsDown me (asks.Send to number) = to ≢ me
RestsDown me (asks.Take from number) = Unit {0}
RestsDown me asks.Crash = Unit {0}
RestsDown me asks.Recover = ⊥

-- ---- a replica that is up

-- it has another replica, and all else is as before
pub record HasChanged (old new : Course) (was has : Replica) : Type 0 where
  pub up : old.state ≡ states.Up was
  pub becomes : new ≡ record old { state = states.Up has }

-- it has the same replica, but for room
pub record HasStayed (setup : Setup) (old new : Course) : Type 0 where
  pub was : Replica
  pub has : Replica
  pub changed : HasChanged old new was has
  pub same : StaysSame setup was has

-- it has room for these items
pub record IsReadied (setup : Setup) (items : List LogItem) (c : Course) : Type 0 where
  pub r : Replica
  pub up : c.state ≡ states.Up r
  pub ready : IsReadyFor setup r items

-- it wants what it is short of
pub record HasNoted (lacking : Lacking) (old new : Course) : Type 0 where
  pub was : Replica
  pub has : Replica
  pub changed : HasChanged old new was has
  pub answered : (setup : Setup) (inst : Inst) → IsReplica setup was.me was → Decides setup inst (view_of was) (decision.Short lacking) → HasAnswered setup inst was (outcomes.Short lacking) has

-- it decided on this act, and has room for it
pub record CanAct (setup : Setup) (inst : Inst) (batch : Batch) (c : Course) : Type 0 where
  pub r : Replica
  pub up : c.state ≡ states.Up r
  pub own : IsReplica setup r.me r
  pub fits : InstFits setup.spec inst
  pub decided : Decides setup inst (view_of r) (decision.Act batch)
  pub room : HasRoom 1 r
  pub ready : IsReadyFor setup r batch.items

-- it has done it
pub record HasActed (setup : Setup) (inst : Inst) (batch : Batch) (old new : Course) : Type 0 where
  pub was : Replica
  pub has : Replica
  pub changed : HasChanged old new was has
  pub known : known_to has ≡ with_all batch.items (known_to was)
  pub answered : HasAnswered setup inst was (outcomes.Done (length (own_log was))) has

-- it decided on this of a message, and has room for it
pub record CanTake (setup : Setup) (message : Message) (taken : Taken) (c : Course) : Type 0 where
  pub r : Replica
  pub up : c.state ≡ states.Up r
  pub own : IsReplica setup r.me r
  pub decided : TakesHeeded setup (view_of r) message taken
  pub room : HasRoom 24 r
  pub ready : IsReadyFor setup r taken.batch.items

-- it has taken it
pub record HasTakenIt (setup : Setup) (message : Message) (taken : Taken) (old new : Course) : Type 0 where
  pub was : Replica
  pub has : Replica
  pub changed : HasChanged old new was has
  pub known : known_to has ≡ with_all taken.batch.items (known_to was)
  pub took : (heeded : Message) → Heeds setup (view_of was) message heeded → IsTaken setup heeded (view_of was) taken → HasTaken setup heeded was (outcomes.Took message.number taken.applied taken.accepted taken.gave) has

-- ---- a step with a batch

-- all room was made for it, and behind the entries stands that of a disk that fails
pub record HasTried (setup : Setup) (stamp : ℕ) (ask : Ask) (items : List LogItem) (old new : Course) : Type 0 where
  pub ready : Course
  pub stayed : HasStayed setup old ready
  pub has_room : IsReadied setup items ready
  pub becomes : new ≡ with_room (entry_of old stamp ask outcomes.DiskBroken) ready

-- down, with this batch pending
abbrev pub failed : ℕ → Ask → Batch → Course → Course
failed stamp ask batch c = record (with_entry (entry_of c stamp ask outcomes.DiskBroken) c) { state = states.Down (Some batch) }

-- the step was taken, and its batch kept
pub record HasKept (setup : Setup) (ask : Ask) (h : Heard) (batch : Batch) (old : Course) (answer : Answer) (new : Course) : Type 0 where
  pub own : IsCourse setup old.me new
  pub steps : CourseSteps setup ask h old answer new
  pub kept : new.kept ≡ old.kept ++ batch ∷ []
  pub up : running_of new ≡ Up
  pub unbroken : answer.entry.outcome ≢ outcomes.DiskBroken

-- a request that is tried, with its next stamp
pub record IsActing (setup : Setup) (inst : Inst) (stamp : ℕ) (batch : Batch) (old now : Course) : Type 0 where
  pub own : IsCourse setup old.me old
  pub fits : InstFits setup.spec inst
  pub decided : Decides setup inst (views.view_of setup.replicas old) (decision.Act batch)
  pub room : length old.entries < 100000
  pub stamp_is : stamp ≡ min (max old.stamp 0 + 1) last_stamp
  pub tried : HasTried setup stamp (asks.Do inst) batch.items old now

-- a take of a message, and its outcome
abbrev pub take_of : Message → Ask
take_of message = asks.Take message.from (Some message.number)

abbrev pub took_of : Message → Taken → Outcome
took_of message taken = outcomes.Took message.number taken.applied taken.accepted taken.gave

-- a take that is tried, with its next stamp
pub record IsTaking (setup : Setup) (message : Message) (stamp : ℕ) (taken : Taken) (old now : Course) : Type 0 where
  pub own : IsCourse setup old.me old
  pub decided : TakesHeeded setup (views.view_of setup.replicas old) message taken
  pub some : taken.batch.items ≢ []
  pub room : length old.entries < 100000
  pub stamp_is : stamp ≡ min (max old.stamp message.stamp + 1) last_stamp
  pub tried : HasTried setup stamp (take_of message) taken.batch.items old now
