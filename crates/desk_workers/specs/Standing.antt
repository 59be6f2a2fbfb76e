-- How a desk stands while its passes are given away and come back.
use Rattle.std.specs.Prelude.{◌≡◌, ℕ, ◌+◌, ◌<◌, ◌++◌, ◌^◌, List, [], ◌∷◌, All, length, Bool, false, Result, Ok, Err, Option, Some, None}
use Rattle.turn_desk.specs.declared.desk.Desk.{Desk}
use Rattle.turn_desk.specs.declared.line.Entry.{Entry}
use Rattle.turn_desk.specs.declared.pass.Pass.{Pass}
use Rattle.turn_desk.specs.declared.turn.Turn.{Ghosts}
use Rattle.turn_desk.specs.Line.{served}
use Rattle.turn_desk.specs.Passes.{IsPassOf, all_parts, opening_of, parts_of, turns}
use Rattle.desk_workers.specs.Interleaving.{Interleaves, asks_of}
use Rattle.desk_workers.specs.declared.slot.Slot.{Slot}

module _ {A B : Type 0} where
  -- the asks that were served
  abbrev pub asks_in : List (Entry A B) → List A
  asks_in line = asks_of (served line)

  -- each answer fits
  abbrev pub Answered : {O : Type 0} → (O → B → Type 0) → O → List (Entry A B) → Type 0
  Answered is_answer opening line = All (λ turn. is_answer opening turn.1) (served line)

-- whether all were served so far, after this answer
abbrev pub still : {B E : Type 0} → Bool → Result B E → Bool
still all (Ok answer) = all
still all (Err e) = false

module _ {V A B O : Type 0} {g : Ghosts V A B O} where
  -- the pass at hand has the parts that are left to give, and took no turn
  abbrev pub IsFreshPass : Desk V A B O → ℕ → Option (Pass V A B O g) → Type 0
  IsFreshPass desk parts None = parts ≡ 0
  IsFreshPass desk parts (Some pass) = IsPassOf desk pass × (parts_of pass ≡ parts) × (turns pass ≡ [])

  abbrev pub IsFresh : Desk V A B O → Slot V A B O g → Type 0
  IsFresh desk slot = IsFreshPass desk slot.parts slot.pass

  -- all parts but so many are at hand, with turns that interleave these lists
  abbrev pub Stands : (O → B → Type 0) → (V → O) → Desk V A B O → ℕ → List (List A) → Option (Pass V A B O g) → Type 0
  Stands is_answer opening desk out lists None = (out ≡ all_parts desk) × Interleaves lists []
  Stands is_answer opening desk out lists (Some pass) =
      IsPassOf desk pass × (parts_of pass + out ≡ all_parts desk)
      × Interleaves lists (asks_in (turns pass)) × Answered is_answer (opening_of opening desk) (turns pass)

  -- a pass comes back, and its asks are one list more that was interleaved
  abbrev pub TakesBack : (O → B → Type 0) → (V → O) → Desk V A B O → Pass V A B O g → Option (Pass V A B O g) → Option (Pass V A B O g) → Type 0
  TakesBack is_answer opening desk from old new =
      (out : ℕ) (lists : List (List A)) → Stands is_answer opening desk (parts_of from + out) lists old
      → Stands is_answer opening desk out (lists ++ asks_in (turns from) ∷ []) new

  -- a fresh pass with a part for each of these asks, which fit
  pub record MayWork (fits : O → A → Type 0) (opening : V → O) (desk : Desk V A B O) (asks : List A) (pass : Pass V A B O g) : Type 0 where
    pub own : IsPassOf desk pass
    pub parts : (parts_of pass ≡ length asks) × (length asks < 2 ^ 32)
    pub fresh : turns pass ≡ []
    pub fit : All (fits (opening_of opening desk)) asks

  -- a pass with a part for each of these asks, all of which were served
  pub record HasWorked (is_answer : O → B → Type 0) (opening : V → O) (desk : Desk V A B O) (asks : List A) (pass : Pass V A B O g) : Type 0 where
    pub own : IsPassOf desk pass
    pub parts : parts_of pass ≡ length asks
    pub asked : asks_in (turns pass) ≡ asks
    pub answered : Answered is_answer (opening_of opening desk) (turns pass)
