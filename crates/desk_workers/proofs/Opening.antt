-- The desks as they are opened, one after the other.
use Rattle.std.proofs.Common.{◌≡◌, ◌+◌, ◌<◌, ◌≤◌, ◌^◌, ℕ, List, [], ◌∷◌, ◌++◌, length, slice_get, Some, ap, ◌∙◌, sym, subst, arith}
use Rattle.std.proofs.lemmas.Grind.{common_steps}
use Rattle.turn_desk.specs.declared.desk.Desk.{Desk}
use Rattle.turn_desk.specs.declared.turn.Turn.{Ghosts}
use Rattle.turn_desk.specs.Passes.{all_parts, opening_of}
use Rattle.desk_workers.specs.declared.slot.Slot.{Slot}
use Rattle.desk_workers.specs.declared.worker.Worker.{Worker}
use Rattle.desk_workers.specs.Places.{Each, FreshAt, HasRoom}
use Rattle.desk_workers.specs.Standing.{IsFresh}
use Rattle.desk_workers.specs.Workers.{asks_at}
use Rattle.desk_workers.proofs.Eachs.{each_push, get_middle}
use Rattle.desk_workers.proofs.Shifts.{whole_next}

module _ {V A B O : Type 0} {g : Ghosts V A B O} (opening : V → O) where
  pub record AreOpening (workers : List (Worker A)) (values : List V) (so_far rest : List V) (desks : List (Desk V A B O)) (slots : List (Slot V A B O g)) (at : ℕ) : Type 0 where
    pub whole : so_far ++ rest ≡ values
    pub counted : (at ≡ length so_far) × (length desks ≡ length so_far) × (length slots ≡ length so_far)
    pub opened : Each (λ at value desk. opening_of opening desk ≡ opening value) so_far desks
    pub fresh : Each (λ at desk slot. FreshAt (asks_at at workers) 0 desk slot) desks slots

  pub opens_to : (workers : List (Worker A)) (values so_far items rest : List V) (value : V) (desks : List (Desk V A B O)) (slots : List (Slot V A B O g)) (desk : Desk V A B O) (slot : Slot V A B O g) (at : ℕ)
      → AreOpening workers values so_far items desks slots at → items ≡ value ∷ rest → opening_of opening desk ≡ opening value → IsFresh desk slot
      → slot.parts ≡ all_parts desk → (asks_at at workers ≤ all_parts desk) × (0 < all_parts desk)
      → AreOpening workers values (so_far ++ value ∷ []) rest (desks ++ desk ∷ []) (slots ++ slot ∷ []) (at + 1)
  opens_to workers values so_far items rest value desks slots desk slot at are next opened fresh parts enough =
      let n = are.counted in
      let l : length (so_far ++ value ∷ []) ≡ length so_far + 1 = grind (arith, common_steps) in
      let d : length (desks ++ desk ∷ []) ≡ length desks + 1 = grind (arith, common_steps) in
      let s : length (slots ++ slot ∷ []) ≡ length slots + 1 = grind (arith, common_steps) in
      let place : at ≡ length desks = omega (arith, n) in
      record {
        whole = whole_next so_far value rest values items are.whole next;
        counted = (omega (arith, n, l), omega (arith, n, l, d), omega (arith, n, l, s));
        opened = each_push (λ at value desk. opening_of opening desk ≡ opening value) so_far desks value desk n.1 are.opened opened;
        fresh =
            each_push (λ at desk slot. FreshAt (asks_at at workers) 0 desk slot) desks slots desk slot (omega (arith, n)) are.fresh
            (fresh, omega (arith, parts), subst (λ (k : ℕ). asks_at k workers ≤ all_parts desk) place enough.0, enough.1);
      }

  pub opens_next : (workers : List (Worker A)) (values so_far items rest : List V) (value : V) (desks : List (Desk V A B O)) (slots : List (Slot V A B O g)) (desk : Desk V A B O) (slot : Slot V A B O g) (at : ℕ)
      → AreOpening workers values so_far items desks slots at → items ≡ value ∷ rest → opening_of opening desk ≡ opening value → IsFresh desk slot
      → slot.parts ≡ all_parts desk → (asks_at at workers ≤ all_parts desk) × (0 < all_parts desk)
      → (desks' : List (Desk V A B O)) (slots' : List (Slot V A B O g)) → desks' ≡ desks ++ desk ∷ [] → slots' ≡ slots ++ slot ∷ []
      → AreOpening workers values (so_far ++ value ∷ []) rest desks' slots' (at + 1)
  opens_next workers values so_far items rest value desks slots desk slot at are next opened fresh parts enough desks' slots' desks_are slots_are =
      rw desks_are (rw slots_are (opens_to workers values so_far items rest value desks slots desk slot at are next opened fresh parts enough))

  pub has_room : (room : O → ℕ) (workers : List (Worker A)) (values so_far items rest : List V) (value : V) (desks : List (Desk V A B O)) (slots : List (Slot V A B O g)) (at : ℕ)
      → HasRoom room opening workers values → AreOpening workers values so_far items desks slots at → items ≡ value ∷ rest
      → (0 < room (opening value)) × (asks_at at workers ≤ room (opening value)) × (asks_at at workers < 2 ^ 32)
  has_room room workers values so_far items rest value desks slots at has are next =
      let whole : so_far ++ value ∷ rest ≡ values = ap (λ l. so_far ++ l) (sym next) ∙ are.whole in
      has at value (subst (λ (k : ℕ). slice_get values k ≡ Some value) (sym are.counted.0) (get_middle so_far value rest values whole))
