-- What becomes of lists whose members come one by one, each list in its order.
use Rattle.std.specs.Prelude.{◌≡◌, List, [], ◌∷◌, map}
use Rattle.turn_desk.specs.Line.{Merges}

-- the asks of a history
abbrev pub asks_of : {A B : Type 0} → List (A × B) → List A
asks_of history = map (λ turn. turn.0) history

-- the line has the members of all these lists and no others, and keeps the order of each list
abbrev pub Interleaves : {A : Type 0} → List (List A) → List A → Type 0
Interleaves [] line = line ≡ []
Interleaves (asks ∷ lists) line = (rest : List _) × Interleaves lists rest × Merges asks rest line
