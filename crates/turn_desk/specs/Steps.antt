-- What each step at the table tells the pass that makes it.
use Rattle.std.specs.Prelude.{◌≡◌, ℕ, ◌+◌, ◌<◌, true, false, List, [], ◌∷◌, ◌++◌, length, Option, Some, None}
use mathlib.Core.List.{IsPrefix}
use Rattle.atomic_table.specs.Table.{Me, Step}
use Rattle.turn_desk.specs.declared.line.Entry.{Entry}
use Rattle.turn_desk.specs.declared.line.Noted.{Noted}
use Rattle.turn_desk.specs.declared.pass.View.{View}
use Rattle.turn_desk.specs.Line.{served, entries, own, others, owns_at, noted, Merges}

-- a pass at the table: what it knows, and the value where it has it in hand
abbrev pub At : Type 0 → Type 0 → Type 0 → Type 0 → Type 0
At V A B O = Me (Option V) (View A B O)

module _ {A B O : Type 0} where
  -- the pass has this ticket
  abbrev pub drawn : View A B O → ℕ → View A B O
  drawn v ticket = record v { ticket = Some ticket }

  -- the pass is served
  abbrev pub serving : View A B O → View A B O
  serving v = record v { serves = true }

  -- the turn stands last in the line, as the pass's own
  abbrev pub ended : View A B O → Entry A B → View A B O
  ended v entry = record v { notes = v.notes ++ noted true entry ∷ []; ticket = None; serves = false }

  -- more of the line was seen, all of it turns of others
  abbrev pub SeesMore : View A B O → View A B O → Type 0
  SeesMore v w = (between : List (Entry A B)) × (w ≡ record v { notes = v.notes ++ others between })

  -- what two passes noted becomes the notes of one: it has seen what each had, and has the turns of both
  pub record PutsTogether (v w : View A B O) : Type 0 where
    pub notes : List (Noted A B)
    pub after : w ≡ record v { notes = notes; beside = [] }
    pub seen : IsPrefix (entries v.notes) (entries notes) × IsPrefix (entries v.beside) (entries notes)
    pub places : (p : ℕ) → owns_at p notes ≡ owns_at p v.notes + owns_at p v.beside
    pub turns : Merges (own v.notes) (own v.beside) (own notes)

module _ {V A B O : Type 0} where
  -- a ticket was drawn: it is the number that was found
  abbrev pub draws : Step (Option V) → At V A B O → ℕ → At V A B O → Type 0
  draws st m found m' = m' ≡ (drawn m.0 found, m.1)

  -- one look at the line after a join
  abbrev pub puts_together : Step (Option V) → At V A B O → ℕ → At V A B O → Type 0
  puts_together st m found m' = PutsTogether m.0 m'.0 × (m'.1 ≡ m.1)

module _ {V A B O : Type 0} (history : V → List (A × B)) where
  -- the value in hand stands for the line and one turn more, which is counted
  abbrev pub IsCounted : At V A B O → At V A B O → Type 0
  IsCounted m m' =
      (x : V) × (entry : Entry A B) × (m.1 ≡ (0, Some x) ∷ [])
      × (history x ≡ served (entries m.0.notes ++ entry ∷ [])) × (m' ≡ (ended m.0 entry, []))

  -- what the step that counts tells
  abbrev pub counts : Step (Option V) → At V A B O → ℕ → At V A B O → Type 0
  counts st m found m' = IsCounted m m'

  -- that turn of this value stands last in the line
  abbrev pub Ends : View A B O → V → At V A B O → Type 0
  Ends v x m' = (entry : Entry A B) × (history x ≡ served (entries v.notes ++ entry ∷ [])) × (m' ≡ (ended v entry, []))

module _ {V A B O : Type 0} (history : V → List (A × B)) (opening : V → O) where
  -- the value stands for what the pass has seen and one turn more
  pub record IsTurned (v : View A B O) (x : V) : Type 0 where
    pub opened : v.opening ≡ Some (opening x)
    pub turn : (entry : Entry A B) × (history x ≡ served (entries v.notes ++ entry ∷ []))

  -- the turn may be counted: such a value is home in its slot
  abbrev pub IsReady : At V A B O → Type 0
  IsReady m = (x : V) × (m.1 ≡ (0, Some x) ∷ []) × IsTurned m.0 x

module _ {V A B O : Type 0} (history : V → List (A × B)) (opening : V → O) (room : O → ℕ) where
  -- the value stands for what the pass has seen, and may serve one more turn
  pub record MayServe (x : V) (v : View A B O) : Type 0 where
    pub stands : history x ≡ served (entries v.notes)
    pub opened : v.opening ≡ Some (opening x)
    pub spare : length (history x) < room (opening x)

  -- the ticket is served: the whole line was seen, and the value is in hand
  abbrev pub Takes : At V A B O → At V A B O → Type 0
  Takes m m' =
      (w : View A B O) × (x : V) × SeesMore m.0 w × (m' ≡ (serving w, (0, Some x) ∷ [])) × MayServe x w

  -- a ticket was drawn and is served, and the value is out of its slot
  abbrev pub IsTaken : View A B O → V → At V A B O → Type 0
  IsTaken v x m' =
      (ticket : ℕ) × (w : View A B O) × SeesMore (drawn v ticket) w
      × (m' ≡ (serving w, (0, None) ∷ [])) × MayServe x w

  -- the line was seen; where the ticket is served, the value is taken
  abbrev pub looks : Step (Option V) → At V A B O → ℕ → At V A B O → Type 0
  looks st m found m' =
      (m.0.ticket ≡ Some found → Takes m m')
      × (¬ (m.0.ticket ≡ Some found) → SeesMore m.0 m'.0 × (m'.1 ≡ m.1))
