-- The steps of a node.
use Rattle.std.specs.Prelude.{◌≡◌, ℕ, ◌≤◌, ◌++◌, ◌∷◌, [], List, filter, length, Bool, true, false, None, Result, Ok, Err}
use Rattle.ind_disk.specs.Disk.{Rises}
use Rattle.run_model.specs.declared.message.Message.{Message}
use Rattle.run_model.specs.declared.step.Ask.{Ask}
use Rattle.run_model.specs.declared.step.Ask.TheVariants as asks
use Rattle.run_model.specs.declared.step.Outcome.{Outcome}
use Rattle.run_model.specs.declared.step.Outcome.TheVariants as outcomes
use Rattle.run_model.specs.declared.step.StepEntry.{StepEntry}
use Rattle.run_model.specs.Worlds.{Running, Up, Down}
use Rattle.replica_course.specs.Courses.{running_of}
use Rattle.replica_course.specs.declared.answer.Answer.{Answer as CourseAnswer}
use Rattle.replica_course.specs.declared.course.Course.{Course}
use Rattle.replica_node.specs.Ends.{with_one}

-- an ask without the number of a message
abbrev pub plain : Ask → Ask
plain (asks.Send to number) = asks.Send to None
plain (asks.Take from number) = asks.Take from None
plain ask = ask

-- it is the same replica, up at first or not
pub record IsOf (old new : Course) : Type 0 where
  pub me : new.me ≡ old.me
  pub first_up : new.first_up ≡ old.first_up

-- the step of this ask was taken: its entry stands last in the history, and has the number of its message
pub record AddsEntry (ask : Ask) (entry : StepEntry) (old new : Course) : Type 0 where
  pub entries : new.entries ≡ old.entries ++ entry ∷ []
  pub asked : plain entry.ask ≡ ask

-- so is that of a course
pub record CourseAdds (ask : Ask) (old : Course) (answer : CourseAnswer) (new : Course) : Type 0 where
  pub entries : new.entries ≡ old.entries ++ answer.entry ∷ []
  pub asked : answer.entry.ask ≡ ask
  pub same : IsOf old new

-- the entry of the answer is added; without memory the history is as before
abbrev pub Answers : {E : Type 0} → Ask → Course → Course → Result StepEntry E → Type 0
Answers ask old new (Ok entry) = IsOf old new × AddsEntry ask entry old new
Answers ask old new (Err e) = IsOf old new × (new.entries ≡ old.entries)

-- the answer is that the disk failed
abbrev pub BreaksDisk : {E : Type 0} → Result StepEntry E → Type 0
BreaksDisk (Ok entry) = entry.outcome ≡ outcomes.DiskBroken
BreaksDisk (Err e) = ⊥

-- a take that found no message
abbrev pub finds_none : Ask → Outcome → Bool
finds_none (asks.Take from None) outcomes.Idle = true
finds_none ask outcome = false

-- how many takes found none
abbrev pub idles_in : List StepEntry → ℕ
idles_in entries = length (filter (λ e. finds_none e.ask e.outcome) entries)

-- the answer is that a take found none
abbrev pub FindsNone : {E : Type 0} → Result StepEntry E → Type 0
FindsNone (Ok entry) = finds_none entry.ask entry.outcome ≡ true
FindsNone (Err e) = ⊥

-- a count of gets that found none never falls, and it rose where that was found
pub record CountsNone (finds : Type 0) (old new : ℕ) : Type 0 where
  pub no_less : old ≤ new
  pub rises : finds → Rises old new

-- what a replica does with nothing in hand and nothing to put
abbrev pub Acts : Running → Ask → Type 0
Acts running (asks.Do inst) = Unit {0}
Acts Up (asks.Send to number) = ⊥
Acts (Down pending) (asks.Send to number) = number ≡ None
Acts Up (asks.Take from number) = ⊥
Acts (Down pending) (asks.Take from number) = number ≡ None
Acts running asks.Crash = Unit {0}
Acts running asks.Recover = Unit {0}

-- a send and a take of a replica that is down have no number, and leave it so
abbrev pub RestsDown : Ask → Course → StepEntry → Course → Type 0
RestsDown (asks.Do inst) old entry new = entry.ask ≡ asks.Do inst
RestsDown (asks.Send to number) old entry new = (entry.ask ≡ asks.Send to None) × (entry.outcome ≡ outcomes.Down) × (running_of new ≡ running_of old)
RestsDown (asks.Take from number) old entry new = (entry.ask ≡ asks.Take from None) × (entry.outcome ≡ outcomes.Down) × (running_of new ≡ running_of old)
RestsDown asks.Crash old entry new = entry.ask ≡ asks.Crash
RestsDown asks.Recover old entry new = entry.ask ≡ asks.Recover

-- a replica that is up takes the message, and one that is down takes none
abbrev pub taking : Running → Message → (ℕ → List Message) → ℕ → List Message
taking Up message taken = with_one message.from message taken
taking (Down pending) message taken = taken

-- only a replica that is up gives a send or a take a number
abbrev pub NumberedUp : Running → Ask → Type 0
NumberedUp running (asks.Do inst) = Unit {0}
NumberedUp Up (asks.Send to number) = Unit {0}
NumberedUp (Down pending) (asks.Send to number) = number ≡ None
NumberedUp Up (asks.Take from number) = Unit {0}
NumberedUp (Down pending) (asks.Take from number) = number ≡ None
NumberedUp running asks.Crash = Unit {0}
NumberedUp running asks.Recover = Unit {0}
