-- The line of a desk: all its turns, and what a pass noted of them.
use Rattle.std.specs.Prelude.{◌≡◌, ◌⊎◌, ℕ, zero, suc, Bool, true, false, cond, filter, map, List, [], ◌∷◌, ◌++◌, Result, Ok, Err}
use Rattle.turn_desk.specs.declared.line.Entry.{Entry}
use Rattle.turn_desk.specs.declared.line.Entry.TheVariants.{Served, Blank}
use Rattle.turn_desk.specs.declared.line.Noted.{Noted}

-- c has the members of a and those of b, and keeps both orders
abbrev pub Merges : {X : Type 0} → List X → List X → List X → Type 0
Merges a b [] = (a ≡ []) × (b ≡ [])
Merges a b (e ∷ c) =
    ((rest : List _) × (a ≡ e ∷ rest) × Merges rest b c)
    ⊎ ((rest : List _) × (b ≡ e ∷ rest) × Merges a rest c)

module _ {A B : Type 0} where
  -- the history of a line: its served turns, each ask with its answer
  abbrev pub served : List (Entry A B) → List (A × B)
  served [] = []
  served (Served ask answer ∷ line) = (ask, answer) ∷ served line
  served (Blank ∷ line) = served line

  -- how a turn stands in the line: after a refusal as a blank one
  abbrev pub entry_of : {E : Type 0} → A → Result B E → Entry A B
  entry_of ask (Ok answer) = Served ask answer
  entry_of ask (Err e) = Blank

  -- a turn as a pass notes it
  abbrev pub noted : Bool → Entry A B → Noted A B
  noted mine entry = record { mine = mine; entry = entry }

  -- the turns that were noted, whosesoever they are
  abbrev pub entries : List (Noted A B) → List (Entry A B)
  entries notes = map (λ n. n.entry) notes

  -- the pass's own turns, in their order
  abbrev pub own : List (Noted A B) → List (Entry A B)
  own notes = entries (filter (λ n. n.mine) notes)

  -- turns of others
  abbrev pub others : List (Entry A B) → List (Noted A B)
  others line = map (noted false) line

  -- 1 where the turn at this place of the line is the pass's own, else 0
  abbrev pub owns_at : ℕ → List (Noted A B) → ℕ
  owns_at place [] = 0
  owns_at zero (n ∷ notes) = cond n.mine 1 0
  owns_at (suc place) (n ∷ notes) = owns_at place notes

  -- what was noted goes on by turns of others, and then by this turn, the pass's own
  abbrev pub AddsTurn : List (Noted A B) → Entry A B → List (Noted A B) → Type 0
  AddsTurn old entry new = (between : List (Entry A B)) × (new ≡ (old ++ others between) ++ noted true entry ∷ [])
