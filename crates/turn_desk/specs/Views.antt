-- What a pass knows: its parts, its notes of the line and its ticket.
use Rattle.std.specs.Prelude.{◌≡◌, ℕ, ◌+◌, ◌-◌, ◌==◌, false, [], length, if◌then◌else◌, Option, Some, None}
use Rattle.turn_desk.specs.declared.pass.View.{View}
use Rattle.turn_desk.specs.Line.{entries, own, others, owns_at}

-- 1 where there is a number
abbrev pub one_of : Option ℕ → ℕ
one_of None = 0
one_of (Some ticket) = 1

-- 1 where that number is this place
abbrev pub one_if : ℕ → Option ℕ → ℕ
one_if place None = 0
one_if place (Some ticket) = if place == ticket then 1 else 0

module _ {A B O : Type 0} where
  -- a pass that has seen nothing
  abbrev pub newcomer : ℕ → O → View A B O
  newcomer parts opening =
      record { parts = parts; opening = Some opening; notes = []; beside = []; ticket = None; serves = false }

  -- a pass between two turns
  abbrev pub IsIdle : View A B O → Type 0
  IsIdle v = (v.beside ≡ []) × (v.ticket ≡ None) × (v.serves ≡ false)

  -- 1 where the pass has a ticket
  abbrev pub waiting : View A B O → ℕ
  waiting v = one_of v.ticket

  -- how many turns it took
  abbrev pub taken : View A B O → ℕ
  taken v = length (own v.notes) + length (own v.beside)

  -- its turns, with its ticket counted as one
  abbrev pub turns_of : View A B O → ℕ
  turns_of v = taken v + waiting v

  -- 1 where the place of the line is one of its turns, or its ticket
  abbrev pub claims : ℕ → View A B O → ℕ
  claims place v = owns_at place v.notes + owns_at place v.beside + one_if place v.ticket

  -- what is left where so many parts are cut off
  abbrev pub remaining : ℕ → View A B O → View A B O
  remaining parts v = record v { parts = v.parts - parts }

  -- the new pass: it has seen the same, and has no turns
  abbrev pub cut : ℕ → View A B O → View A B O
  cut parts v =
      record { parts = parts; opening = v.opening; notes = others (entries v.notes); beside = []; ticket = None; serves = false }

  -- a pass that took another one in, and has yet to look at the line
  abbrev pub taking_in : View A B O → View A B O → View A B O
  taking_in v w = record v { parts = v.parts + w.parts; beside = w.notes }

  -- what stays of the other
  abbrev pub spent : View A B O
  spent = record { parts = 0; opening = None; notes = []; beside = []; ticket = None; serves = false }
