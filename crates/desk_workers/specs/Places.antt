-- The desks and the slots of their passes, place by place.
use Rattle.std.specs.Prelude.{◌≡◌, ◌==◌, ℕ, ◌+◌, ◌<◌, ◌≤◌, ◌^◌, List, [], ◌∷◌, All, map, filter, length, sum_by, slice_get, Option, Some, None, IfSome}
use Rattle.turn_desk.specs.declared.desk.Desk.{Desk}
use Rattle.turn_desk.specs.declared.pass.Pass.{Pass}
use Rattle.turn_desk.specs.declared.turn.Turn.{Ghosts}
use Rattle.turn_desk.specs.Line.{served}
use Rattle.turn_desk.specs.Passes.{IsPassOf, all_parts, opening_of, parts_of, turns}
use Rattle.desk_workers.specs.declared.shift.Worked.{Worked}
use Rattle.desk_workers.specs.declared.slot.Slot.{Slot}
use Rattle.desk_workers.specs.declared.worker.Worker.{Worker}
use Rattle.desk_workers.specs.Standing.{HasWorked, IsFresh, asks_in}
use Rattle.desk_workers.specs.Workers.{asks_at}

-- what stands at one place of both lists is so related
abbrev pub Each : {X Y : Type 0} → (ℕ → X → Y → Type 0) → List X → List Y → Type 0
Each {X = X} {Y = Y} P xs ys = (at : ℕ) (x : X) (y : Y) → slice_get xs at ≡ Some x → slice_get ys at ≡ Some y → P at x y

-- each value has room for a turn, and for all asks that come to its desk
abbrev pub HasRoom : {V A O : Type 0} → (O → ℕ) → (V → O) → List (Worker A) → List V → Type 0
HasRoom {V = V} room opening workers values =
    (at : ℕ) (value : V) → slice_get values at ≡ Some value
    → (0 < room (opening value)) × (asks_at at workers ≤ room (opening value)) × (asks_at at workers < 2 ^ 32)

module _ {A : Type 0} where
  -- a task more, if it has asks
  abbrev pub if_any : ℕ → List A → List (ℕ × List A) → List (ℕ × List A)
  if_any desk [] tasks = tasks
  if_any desk (ask ∷ asks) tasks = (desk, ask ∷ asks) ∷ tasks

  -- the tasks of the workers that have asks: the place of the desk, and the asks
  abbrev pub busy : List (Worker A) → List (ℕ × List A)
  busy [] = []
  busy (w ∷ workers) = if_any w.desk w.asks (busy workers)

  -- the lists of asks of the tasks at a place
  abbrev pub lists_to : ℕ → List (ℕ × List A) → List (List A)
  lists_to at tasks = map (λ task. task.1) (filter (λ task. task.0 == at) tasks)

  -- how many asks these are
  abbrev pub asks_to : ℕ → List (ℕ × List A) → ℕ
  asks_to at tasks = sum_by length (lists_to at tasks)

-- the asks fit the value at the desk
abbrev pub FitsAt : {V A B O : Type 0} → (O → A → Type 0) → (V → O) → List (Desk V A B O) → ℕ → List A → Type 0
FitsAt {V = V} {A = A} {B = B} {O = O} fits opening desks at asks = (desk : Desk V A B O) → slice_get desks at ≡ Some desk → All (fits (opening_of opening desk)) asks

module _ {V A B O : Type 0} {g : Ghosts V A B O} where
  -- of the desk's parts, which are enough for its asks, so many were given
  abbrev pub FreshAt : ℕ → ℕ → Desk V A B O → Slot V A B O g → Type 0
  FreshAt asks given desk slot = IsFresh desk slot × (slot.parts + given ≡ all_parts desk) × (asks ≤ all_parts desk) × (0 < all_parts desk)

  -- what came back: the place, and the asks that were served
  abbrev pub task_of : Option (Worked V A B O g) → ℕ × List A
  task_of None = (0, [])
  task_of (Some worked) = (worked.place, asks_in (turns worked.pass))

  abbrev pub tasks_of : List (Option (Worked V A B O g)) → List (ℕ × List A)
  tasks_of back = map task_of back

  abbrev pub IsThere : Option (Worked V A B O g) → Type 0
  IsThere done = (worked : Worked V A B O g) × (done ≡ Some worked)

  -- the pass is of the desk at its place, and has a part for each ask that was served
  abbrev pub IsBack : (O → B → Type 0) → (V → O) → List (Desk V A B O) → Option (Worked V A B O g) → Type 0
  IsBack is_answer opening desks done =
      IfSome done (λ worked. (desk : Desk V A B O) × (slice_get desks worked.place ≡ Some desk) × HasWorked is_answer opening desk (asks_in (turns worked.pass)) worked.pass)

  -- all parts are at hand
  abbrev pub IsWhole : Desk V A B O → Option (Pass V A B O g) → Type 0
  IsWhole desk slot = (pass : Pass V A B O g) × (slot ≡ Some pass) × IsPassOf desk pass × (parts_of pass ≡ all_parts desk)

  -- the value that comes back has served the turns of the pass
  abbrev pub ClosesAs : (V → List (A × B)) → (V → O) → Desk V A B O → Option (Pass V A B O g) → V → Type 0
  ClosesAs history opening desk slot value =
      (pass : Pass V A B O g) → slot ≡ Some pass → (opening value ≡ opening_of opening desk) × (history value ≡ served (turns pass))
