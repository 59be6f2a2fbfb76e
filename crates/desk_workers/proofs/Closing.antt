-- The desks as they are closed, one after the other.
use Rattle.std.proofs.Common.{◌≡◌, ◌+◌, ◌<◌, ◌≤◌, ℕ, List, [], ◌∷◌, ◌++◌, length, slice_get, slice_set, Some, ap, ◌∙◌, sym, subst, arith}
use Rattle.std.proofs.lemmas.Grind.{common_steps}
use Rattle.std.proofs.lemmas.Option.{same_Some, slice_get_within}
use Rattle.turn_desk.specs.declared.desk.Desk.{Desk}
use Rattle.turn_desk.specs.declared.pass.Pass.{Pass}
use Rattle.turn_desk.specs.declared.turn.Turn.{Ghosts}
use Rattle.turn_desk.specs.Line.{served}
use Rattle.turn_desk.specs.Passes.{opening_of, turns}
use Rattle.desk_workers.specs.declared.slot.Slot.{Slot}
use Rattle.desk_workers.specs.Places.{Each, ClosesAs, IsWhole}
use Rattle.desk_workers.proofs.Eachs.{each_push, get_middle, get_set_other, yielded_all}
use Rattle.desk_workers.proofs.Shifts.{whole_next}

module _ {V A B O : Type 0} {g : Ghosts V A B O} (history : V → List (A × B)) (opening : V → O) where
  pub record AreClosing (desks so_far rest : List (Desk V A B O)) (first slots : List (Slot V A B O g)) (values : List V) (at : ℕ) : Type 0 where
    pub whole : so_far ++ rest ≡ desks
    pub counted : (at ≡ length so_far) × (length values ≡ length so_far) × (length slots ≡ length desks)
    pub left : (k : ℕ) → at ≤ k → slice_get slots k ≡ slice_get first k
    pub closed : Each (λ k desk value. (slot : Slot V A B O g) → slice_get first k ≡ Some slot → ClosesAs history opening desk slot.pass value) so_far values

  pub closing_at : (desks so_far items rest : List (Desk V A B O)) (first slots : List (Slot V A B O g)) (values : List V) (at : ℕ) (desk : Desk V A B O)
      → AreClosing desks so_far items first slots values at → items ≡ desk ∷ rest → (slice_get desks at ≡ Some desk) × (at < length slots)
  closing_at desks so_far items rest first slots values at desk are next =
      let whole : so_far ++ desk ∷ rest ≡ desks = ap (λ l. so_far ++ l) (sym next) ∙ are.whole in
      let is : slice_get desks at ≡ Some desk = subst (λ (k : ℕ). slice_get desks k ≡ Some desk) (sym are.counted.0) (get_middle so_far desk rest desks whole) in
      (is, omega (arith, slice_get_within desks at desk is, are.counted.2))

  -- all parts of the desk are at hand
  pub whole_at : (desks so_far items rest : List (Desk V A B O)) (first slots : List (Slot V A B O g)) (values : List V) (at : ℕ) (desk : Desk V A B O) (slot : Slot V A B O g)
      → AreClosing desks so_far items first slots values at → items ≡ desk ∷ rest → slice_get slots at ≡ Some slot → Each (λ at desk slot. IsWhole desk slot.pass) desks first
      → (slice_get first at ≡ Some slot) × IsWhole desk slot.pass
  whole_at desks so_far items rest first slots values at desk slot are next slot_is whole =
      let in_first : slice_get first at ≡ Some slot = sym (are.left at (omega arith)) ∙ slot_is in
      (in_first, whole at desk slot (closing_at desks so_far items rest first slots values at desk are next).0 in_first)

  pub closes_next : (desks so_far items rest : List (Desk V A B O)) (first slots : List (Slot V A B O g)) (values values' : List V) (at : ℕ) (desk : Desk V A B O) (slot new : Slot V A B O g) (pass : Pass V A B O g) (value : V)
      → AreClosing desks so_far items first slots values at → items ≡ desk ∷ rest → slice_get first at ≡ Some slot → slot.pass ≡ Some pass
      → opening value ≡ opening_of opening desk → history value ≡ served (turns pass) → values' ≡ values ++ value ∷ []
      → AreClosing desks (so_far ++ desk ∷ []) rest first (slice_set slots at new) values' (at + 1)
  closes_next desks so_far items rest first slots values values' at desk slot new pass value are next slot_is pass_is opened serves values_are =
      let n = are.counted in
      let l : length (so_far ++ desk ∷ []) ≡ length so_far + 1 = grind (arith, common_steps) in
      let v : length (values ++ value ∷ []) ≡ length values + 1 = grind (arith, common_steps) in
      let s : length (slice_set slots at new) ≡ length slots = grind (arith, common_steps) in
      record {
        whole = whole_next so_far desk rest desks items are.whole next;
        counted = (omega (arith, n, l), omega (arith, n, l, v, ap length values_are), omega (arith, n, s));
        left = λ k above. get_set_other slots at new k (λ e. omega (arith, e, above)) ∙ are.left k (omega (arith, above));
        closed =
            subst (λ vs. Each (λ k desk value. (slot : Slot V A B O g) → slice_get first k ≡ Some slot → ClosesAs history opening desk slot.pass value) (so_far ++ desk ∷ []) vs) (sym values_are)
            (each_push (λ k desk value. (slot : Slot V A B O g) → slice_get first k ≡ Some slot → ClosesAs history opening desk slot.pass value) so_far values desk value n.1 are.closed
            (λ other other_is p p_is.
            let here : slice_get first at ≡ Some other = subst (λ (k : ℕ). slice_get first k ≡ Some other) (sym n.0) other_is in
            let same : slot ≡ other = same_Some slot other (sym slot_is ∙ here) in
            let same_pass : pass ≡ p = same_Some pass p (sym pass_is ∙ (ap (λ (s : Slot V A B O g). s.pass) same ∙ p_is)) in
            (opened, serves ∙ ap (λ q. served (turns q)) same_pass)));
      }

  pub all_closed : (desks so_far rest : List (Desk V A B O)) (first slots : List (Slot V A B O g)) (values : List V) (at : ℕ) → AreClosing desks so_far rest first slots values at → length rest ≡ 0
      → (at : ℕ) (desk : Desk V A B O) (slot : Slot V A B O g) (value : V) → slice_get desks at ≡ Some desk → slice_get first at ≡ Some slot → slice_get values at ≡ Some value → ClosesAs history opening desk slot.pass value
  all_closed desks so_far rest first slots values n are none at desk slot value desk_is slot_is value_is =
      let all : so_far ≡ desks = yielded_all desks so_far rest are.whole none in
      are.closed at desk value (subst (λ ds. slice_get ds at ≡ Some desk) (sym all) desk_is) value_is slot slot_is
