-- What contracts see of a desk and of its passes.
use Rattle.std.specs.Prelude.{◌≡◌, ℕ, List, Option, Some}
use Rattle.atomic_table.specs.declared.shared.Seat.{Seat}
use Rattle.turn_desk.specs.declared.desk.Desk.{Desk}
use Rattle.turn_desk.specs.declared.line.Entry.{Entry}
use Rattle.turn_desk.specs.declared.line.Noted.{Noted}
use Rattle.turn_desk.specs.declared.pass.Pass.{Pass}
use Rattle.turn_desk.specs.declared.pass.View.{View}
use Rattle.turn_desk.specs.declared.turn.Turn.{Ghosts}
use Rattle.turn_desk.specs.Line.{entries, own}

module _ {V A B O : Type 0} where
  -- what the first value of the desk opened with
  abbrev pub opening_of : (V → O) → Desk V A B O → O
  opening_of opening desk = opening desk.table.shared.key.first.value

  -- the parts of all passes
  abbrev pub all_parts : Desk V A B O → ℕ
  all_parts desk = desk.table.shared.key.parts

  -- the hand is of this desk
  abbrev pub IsHandOf : Desk V A B O → Seat (Option V) (View A B O) → Type 0
  IsHandOf desk hand = hand.table_id ≡ desk.table.shared.table_id

module _ {V A B O : Type 0} {g : Ghosts V A B O} where
  -- what a pass knows
  abbrev pub known : Pass V A B O g → View A B O
  known pass = pass.hand.me.0

  -- the pass is of this desk
  abbrev pub IsPassOf : Desk V A B O → Pass V A B O g → Type 0
  IsPassOf desk pass = IsHandOf desk pass.hand × ((known pass).opening ≡ Some (opening_of g.opening desk))

  -- how many turns a pass may take, those that it took counted
  abbrev pub parts_of : Pass V A B O g → ℕ
  parts_of pass = (known pass).parts

  -- what it noted of the line, from the line's first turn on
  abbrev pub notes_of : Pass V A B O g → List (Noted A B)
  notes_of pass = (known pass).notes

  -- the beginning of the line that it has seen
  abbrev pub seen : Pass V A B O g → List (Entry A B)
  seen pass = entries (notes_of pass)

  -- its own turns, in their order, blank ones among them
  abbrev pub turns : Pass V A B O g → List (Entry A B)
  turns pass = own (notes_of pass)
