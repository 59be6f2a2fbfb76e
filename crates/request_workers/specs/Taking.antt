-- The closing takes of all replicas, and how they end.
use Rattle.std.specs.Prelude.{◌≡◌, ◌≢◌, ℕ, ◌+◌, ◌<◌, ◌≤◌, List, [], ◌++◌, length, map, slice_get, slice_index_or, Some, IsTrue}
use Rattle.std.specs.List.{AllByRecursion}
use Rattle.ind_disk.specs.Bay.{TellsAll}
use Rattle.ind_disk.specs.Disk.{Standing}
use Rattle.spec_model.specs.declared.plan.Setup.{Setup}
use Rattle.run_model.specs.declared.batch.Batch.{Batch}
use Rattle.run_model.specs.declared.history.History.{History}
use Rattle.run_model.specs.declared.message.Message.{Message}
use Rattle.run_model.specs.declared.step.StepEntry.{StepEntry}
use Rattle.run_model.specs.Worlds.{Running}
use Rattle.batch_storage.specs.Shown.{Shown, shown_of}
use Rattle.local_runs.specs.Alone.{IsFront}
use Rattle.local_runs.specs.Handed.{IsRefused}
use Rattle.replica_course.specs.Courses.{HasStops, history_of, running_of}
use Rattle.replica_course.specs.declared.course.Course.{Course}
use Rattle.replica_node.specs.Closing.{HasReceived}
use Rattle.replica_node.specs.Nodes.{IsStill, in_hand}
use Rattle.replica_node.specs.Steps.{IsOf}
use Rattle.replica_node.specs.declared.still.Still.{Still}
use Rattle.client_asks.specs.Asking.{ClientWork}
use Rattle.client_runs.specs.Alone.{HaveServed}
use Rattle.client_runs.specs.Serving.{Found, asked_in, takes_of}

-- ---- one replica

-- what there is to take of a replica: what is in hand of it, and behind that what was left on its link
abbrev pub to_take : {S D : Type 0} → Still S D → List (List Message) → ℕ → List Message
to_take s lists from = in_hand s.hands from ++ slice_index_or lists from []

-- replica me can take all that was left for it
pub record CanTake {S D : Type 0} (keeps : S → ℕ → List Batch → Running → Type 0) (setup : Setup) (me : ℕ) (lists : List (List Message)) (s : Still S D) : Type 0 where
  pub place : s.course.me ≡ me
  pub taken : ℕ → List Message
  pub put : ℕ → List Message
  pub own : IsStill keeps setup me taken put s
  pub whole : length lists ≡ setup.replicas
  pub theirs : (from : ℕ) (left : List Message) → slice_get lists from ≡ Some left → AllByRecursion (λ m. m.from ≡ from) left
  pub room : length s.course.entries + length (takes_of (λ peer. length (to_take s lists peer)) me setup.replicas) ≤ 100000

-- of each of the first n other replicas it took a front of this, and of the others nothing
pub record TakesFronts {S D : Type 0} (keeps : S → ℕ → List Batch → Running → Type 0) (setup : Setup) (me n : ℕ) (lists : ℕ → List Message) (taken put : ℕ → List Message) (now : Still S D) : Type 0 where
  pub after : ℕ → List Message
  pub still : IsStill keeps setup me after put now
  pub fronts : (j : ℕ) → j < n → j ≢ me → (front : List Message) × IsFront front (lists j) × (after j ≡ taken j ++ front)
  pub others : (j : ℕ) → n ≤ j → after j ≡ taken j

-- its takes stand behind the entries that there were: one for each message of the first n other replicas
pub record AddsTakes (me n : ℕ) (lists : ℕ → List Message) (old now : Course) : Type 0 where
  pub closing : List StepEntry
  pub entries : now.entries ≡ old.entries ++ closing
  pub asked : asked_in closing ≡ takes_of (λ peer. length (lists peer)) me n
  pub found : AllByRecursion Found closing
  pub unrefused : AllByRecursion (λ e. (to : ℕ) → IsRefused to e → ⊥) closing

-- replica me took what there was to take of the first n other replicas
pub record HasTaken {S D : Type 0} (keeps : S → ℕ → List Batch → Running → Type 0) (shows : S → Shown) (setup : Setup) (me n : ℕ) (lists : List (List Message)) (old now : Still S D) : Type 0 where
  pub takes : (taken put : ℕ → List Message) → IsStill keeps setup me taken put old → TakesFronts keeps setup me n (to_take old lists) taken put now
  pub held : (j : ℕ) → n ≤ j → in_hand now.hands j ≡ in_hand old.hands j
  pub same : IsOf old.course now.course
  pub closing : AddsTakes me n (to_take old lists) old.course now.course
  pub stops : (given : ℕ) → HasStops given (shows old.storage) old.course → HasStops given (shows now.storage) now.course

-- it took what was left on the link of that replica, if that is another one
pub record TakesFrom {S D : Type 0} (keeps : S → ℕ → List Batch → Running → Type 0) (shows : S → Shown) (setup : Setup) (me from : ℕ) (left : List Message) (old now : Still S D) : Type 0 where
  pub itself : from ≡ me → now ≡ old
  pub other : from ≢ me → HasReceived keeps shows setup from (in_hand old.hands from ++ left) old now

-- ---- all replicas

-- each can take what was left for it
pub record CanAllTake {S D : Type 0} (keeps : S → ℕ → List Batch → Running → Type 0) (setup : Setup) (left : List (List (List Message))) (stills : List (Still S D)) : Type 0 where
  pub whole : length stills ≡ setup.replicas
  pub left_whole : length left ≡ setup.replicas
  pub each : (me : ℕ) (s : Still S D) (lists : List (List Message)) → slice_get stills me ≡ Some s → slice_get left me ≡ Some lists → CanTake keeps setup me lists s

-- the first so many took it, and the others are as they were
pub record HaveTaken {S D : Type 0} (keeps : S → ℕ → List Batch → Running → Type 0) (shows : S → Shown) (setup : Setup) (many : ℕ) (left : List (List (List Message))) (old now : List (Still S D)) : Type 0 where
  pub whole : length now ≡ length old
  pub each : (me : ℕ) (s after : Still S D) (lists : List (List Message)) → me < many → slice_get old me ≡ Some s → slice_get now me ≡ Some after → slice_get left me ≡ Some lists → HasTaken keeps shows setup me setup.replicas lists s after
  pub later : (me : ℕ) → many ≤ me → slice_get now me ≡ slice_get old me

-- each is a replica by itself, with room for its history
pub record AreAllStill {S D : Type 0} (keeps : S → ℕ → List Batch → Running → Type 0) (setup : Setup) (stills : List (Still S D)) : Type 0 where
  pub each : (me : ℕ) (s : Still S D) → slice_get stills me ≡ Some s → (taken put : ℕ → List Message) × IsStill keeps setup s.course.me taken put s × (length s.course.entries ≤ 100000)

-- the histories and the disks of replicas
pub record AreFinished {S D : Type 0} (standing : D → Standing) (shows : S → Shown) (comes_back : ℕ → List Batch → Running → List ℕ → Type 0) (setup : Setup) (stills : List (Still S D)) (histories : List History) (disks : List D) : Type 0 where
  pub histories_are : histories ≡ map (λ s. history_of setup s.course) stills
  pub whole : length disks ≡ length stills
  pub shown : (me : ℕ) (s : Still S D) (d : D) → slice_get stills me ≡ Some s → slice_get disks me ≡ Some d → shows s.storage ≡ shown_of (standing d)
  pub journals : (me : ℕ) (s : Still S D) (d : D) → slice_get stills me ≡ Some s → slice_get disks me ≡ Some d → IsTrue (standing d).tells → comes_back setup.replicas s.course.kept (running_of s.course) (standing d).bytes

-- ---- the run

-- what replicas over these disks did that served clients, and their disks at the end: what each left on its own, and its failures there, of so many stops that were given
pub record HasRun {D : Type 0} (standing : D → Standing) (comes_back : ℕ → List Batch → Running → List ℕ → Type 0) (setup : Setup) (work : ClientWork) (disks : List D) (histories : List History) (ended : List D) : Type 0 where
  pub courses : List Course
  pub taken : ℕ → ℕ → List Message
  pub put : ℕ → ℕ → List Message
  pub served : HaveServed setup work courses taken put
  pub shown : histories ≡ map (history_of setup) courses
  pub whole : length ended ≡ setup.replicas
  pub journals : (me : ℕ) (c : Course) (d : D) → slice_get courses me ≡ Some c → slice_get ended me ≡ Some d → IsTrue (standing d).tells → comes_back setup.replicas c.kept (running_of c) (standing d).bytes
  pub stops : (me given : ℕ) (c : Course) (before d : D) → slice_get courses me ≡ Some c → slice_get disks me ≡ Some before → slice_get ended me ≡ Some d → TellsAll given (standing before) → HasStops given (shown_of (standing d)) c
