-- A step of one of the replicas.
use Rattle.std.specs.Prelude.{◌≡◌, ℕ, ◌<◌, List, [], ◌∷◌, ◌++◌, length, slice_get, slice_set, Option, Some, None}
use Rattle.spec_model.specs.declared.plan.Setup.{Setup}
use Rattle.run_model.specs.declared.message.Message.{Message}
use Rattle.run_model.specs.declared.step.Ask.{Ask}
use Rattle.run_model.specs.declared.step.Ask.TheVariants as asks
use Rattle.run_model.specs.declared.step.Order.{Order}
use Rattle.run_model.specs.Worlds.{Running, Up, Down}
use Rattle.scenario_text.specs.Numbered.{IsNumbered}
use Rattle.scenario_text.specs.WellFormed.{OrderFits}
use Rattle.replica_course.specs.Courses.{IsAsBefore, IsCourse, running_of}
use Rattle.replica_course.specs.Steps.{CourseSteps}
use Rattle.replica_course.specs.declared.answer.Answer.{Answer}
use Rattle.replica_course.specs.declared.course.Course.{Course}
use Rattle.replica_course.specs.declared.heard.Heard.{Heard}
use Rattle.replica_course.specs.declared.heard.Heard.TheVariants as heard
use Rattle.replica_world.specs.Links.{link_place, put_on}
use Rattle.replica_world.specs.Worlds.{AreRunning}

-- a take names what stands on its link
abbrev pub IsOnLink : List (List Heard) → ℕ → Ask → Type 0
IsOnLink links me (asks.Do inst) = Unit {0}
IsOnLink links me (asks.Send to number) = Unit {0}
IsOnLink links me (asks.Take from number) = (from < 16) × (place : ℕ) × (number ≡ Some place) × (place < length (put_on links from me))
IsOnLink links me asks.Crash = Unit {0}
IsOnLink links me asks.Recover = Unit {0}

-- what is at hand for a step: for a take with a number, of a replica that is up, what that names on the link, else nothing
abbrev pub IsAtHand : List (List Heard) → ℕ → Ask → Running → Heard → Type 0
IsAtHand links me (asks.Do inst) running h = h ≡ heard.Nothing
IsAtHand links me (asks.Send to number) running h = h ≡ heard.Nothing
IsAtHand links me (asks.Take from None) running h = h ≡ heard.Nothing
IsAtHand links me (asks.Take from (Some number)) Up h = slice_get (put_on links from me) number ≡ Some h
IsAtHand links me (asks.Take from (Some number)) (Down pending) h = h ≡ heard.Nothing
IsAtHand links me asks.Crash running h = h ≡ heard.Nothing
IsAtHand links me asks.Recover running h = h ≡ heard.Nothing

-- what a send with this stamp puts on its link: its message, or the stamp where it had none
abbrev pub put_by : ℕ → Option Message → Heard
put_by stamp None = heard.Unsent stamp
put_by stamp (Some message) = heard.Message message

-- the links with this put behind what is on one of them
abbrev pub with_put : List (List Heard) → ℕ → ℕ → Heard → List (List Heard)
with_put links from to h = slice_set links (link_place from to) (put_on links from to ++ h ∷ [])

-- the links with room for what replica me is asked to send
abbrev pub with_room : List (List Heard) → ℕ → Ask → List (List Heard)
with_room links me (asks.Do inst) = links
with_room links me (asks.Send to number) = with_put links me to heard.Nothing
with_room links me (asks.Take from number) = links
with_room links me asks.Crash = links
with_room links me asks.Recover = links

-- the links after a step of replica me
abbrev pub links_after : List (List Heard) → ℕ → Ask → ℕ → Option Message → List (List Heard)
links_after links me (asks.Do inst) stamp sent = links
links_after links me (asks.Send to number) stamp sent = with_put links me to (put_by stamp sent)
links_after links me (asks.Take from number) stamp sent = links
links_after links me asks.Crash stamp sent = links
links_after links me asks.Recover stamp sent = links

-- a send is to one of at most 16 replicas
abbrev pub SendsWithin : Ask → Type 0
SendsWithin (asks.Do inst) = Unit {0}
SendsWithin (asks.Send to number) = to < 16
SendsWithin (asks.Take from number) = Unit {0}
SendsWithin asks.Crash = Unit {0}
SendsWithin asks.Recover = Unit {0}

-- the line may follow those before it
pub record IsDue (setup : Setup) (done : List Order) (order : Order) (courses : List Course) (links : List (List Heard)) : Type 0 where
  pub fits : OrderFits setup.spec setup.replicas order
  pub running : AreRunning setup done courses links
  pub numbered : IsNumbered done order
  pub room : length done < 100000

-- replica me takes a step with what is at hand for it on these links
pub record StepsAt (setup : Setup) (me : ℕ) (ask : Ask) (links : List (List Heard)) (old : List Course) (answer : Answer) (new : List Course) : Type 0 where
  pub before : Course
  pub after : Course
  pub was : slice_get old me ≡ Some before
  pub becomes : new ≡ slice_set old me after
  pub hand : Heard
  pub at_hand : IsAtHand links me ask (running_of before) hand
  pub own : IsCourse setup before.me after
  pub steps : CourseSteps setup ask hand before answer after

-- replica me refused a step and stands as before
pub record StaysAt (setup : Setup) (me : ℕ) (old new : List Course) : Type 0 where
  pub before : Course
  pub after : Course
  pub was : slice_get old me ≡ Some before
  pub becomes : new ≡ slice_set old me after
  pub own : IsCourse setup before.me after
  pub as_before : IsAsBefore before after

-- each replica stands as before, and its history is the same
pub record AreAsBefore (old new : List Course) : Type 0 where
  pub whole : length new ≡ length old
  pub each : (me : ℕ) (c d : Course) → slice_get old me ≡ Some c → slice_get new me ≡ Some d → IsAsBefore c d
