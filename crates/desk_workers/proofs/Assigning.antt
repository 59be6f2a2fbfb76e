-- The workers as they get their passes, one after the other.
use Rattle.std.proofs.Common.{◌≡◌, ◌+◌, ◌<◌, ◌≤◌, ◌^◌, ℕ, List, [], ◌∷◌, ◌++◌, length, slice_get, slice_set, Some, All, ap, ◌∙◌, sym, refl, subst, arith}
use Rattle.std.proofs.lemmas.Grind.{common_steps}
use Rattle.std.proofs.lemmas.Option.{same_Some}
use Rattle.turn_desk.specs.declared.desk.Desk.{Desk}
use Rattle.turn_desk.specs.declared.turn.Turn.{Ghosts}
use Rattle.desk_workers.specs.declared.slot.Slot.{Slot}
use Rattle.desk_workers.specs.declared.worker.Worker.{Worker}
use Rattle.desk_workers.specs.Places.{Each, FreshAt, FitsAt, busy, if_any}
use Rattle.desk_workers.specs.Standing.{IsFresh}
use Rattle.desk_workers.specs.Workers.{asks_at}
use Rattle.desk_workers.proofs.Eachs.{each_set}
use Rattle.desk_workers.proofs.Loads.{asks_at_own, asks_at_other, asks_at_idle}
use Rattle.desk_workers.proofs.Shifts.{whole_next, all_next}

module _ {A : Type 0} where
  busy_on : (at : ℕ) (asks : List A) (some more all : List (ℕ × List A)) → all ≡ some ++ more → if_any at asks all ≡ if_any at asks some ++ more
  busy_on at [] some more all is = is
  busy_on at (ask ∷ asks) some more all is = ap (λ l. (at, ask ∷ asks) ∷ l) is

  pub busy_last : (some : List (Worker A)) (w : Worker A) → busy (some ++ w ∷ []) ≡ busy some ++ if_any w.desk w.asks []
  busy_last [] w = refl
  busy_last (first ∷ some) w = busy_on first.desk first.asks (busy some) (if_any w.desk w.asks []) (busy (some ++ w ∷ [])) (busy_last some w)

  one_task : (at : ℕ) (asks : List A) → 0 < length asks → if_any at asks [] ≡ (at, asks) ∷ []
  one_task at [] some = absurd (omega (arith, some))
  one_task at (ask ∷ asks) some = refl

  no_task : (at : ℕ) (asks : List A) → length asks ≡ 0 → if_any at asks [] ≡ []
  no_task at [] none = refl
  no_task at (ask ∷ asks) none = absurd (omega (arith, none))

  pub busy_more : (some : List (Worker A)) (w : Worker A) (tasks : List (ℕ × List A)) → tasks ≡ busy some → 0 < length w.asks → tasks ++ (w.desk, w.asks) ∷ [] ≡ busy (some ++ w ∷ [])
  busy_more some w tasks is any = ap (λ l. l ++ (w.desk, w.asks) ∷ []) is ∙ (ap (λ l. busy some ++ l) (sym (one_task w.desk w.asks any)) ∙ sym (busy_last some w))

  pub busy_same : (some : List (Worker A)) (w : Worker A) (tasks : List (ℕ × List A)) → tasks ≡ busy some → length w.asks ≡ 0 → tasks ≡ busy (some ++ w ∷ [])
  busy_same some w tasks is none =
      let last : busy (some ++ w ∷ []) ≡ busy some ++ [] = busy_last some w ∙ ap (λ l. busy some ++ l) (no_task w.desk w.asks none) in
      is ∙ (grind (arith, common_steps))

module _ {V A B O : Type 0} {g : Ghosts V A B O} where
  pub record AreAssigned (workers so_far rest : List (Worker A)) (desks : List (Desk V A B O)) (slots : List (Slot V A B O g)) : Type 0 where
    pub whole : so_far ++ rest ≡ workers
    pub len : length slots ≡ length desks
    pub given : Each (λ at desk slot. FreshAt (asks_at at workers) (asks_at at so_far) desk slot) desks slots

  -- the worker at hand: its desk, how many asks it has, and that they fit
  pub assigns_at : (fits : O → A → Type 0) (opening : V → O) (workers so_far items rest : List (Worker A)) (desks : List (Desk V A B O)) (slots : List (Slot V A B O g)) (w : Worker A)
      → AreAssigned workers so_far items desks slots → items ≡ w ∷ rest → All (λ (w : Worker A). w.desk < length desks) workers
      → All (λ (w : Worker A). FitsAt fits opening desks w.desk w.asks) workers → ((at : ℕ) → at < length desks → asks_at at workers < 2 ^ 32)
      → (w.desk < length desks) × FitsAt fits opening desks w.desk w.asks × (length w.asks < 2 ^ 32)
  assigns_at fits opening workers so_far items rest desks slots w are next places fit few =
      let whole : so_far ++ w ∷ rest ≡ workers = ap (λ l. so_far ++ l) (sym next) ∙ are.whole in
      let place = all_next (λ (w : Worker A). w.desk < length desks) so_far w rest workers whole places in (
        place,
        all_next (λ (w : Worker A). FitsAt fits opening desks w.desk w.asks) so_far w rest workers whole fit,
        omega (arith, few w.desk place, (asks_at_own so_far rest workers w whole).1),
      )

  -- its desk has as many parts left
  pub has_parts : (workers so_far items rest : List (Worker A)) (desks : List (Desk V A B O)) (slots : List (Slot V A B O g)) (w : Worker A) (desk : Desk V A B O) (slot : Slot V A B O g)
      → AreAssigned workers so_far items desks slots → items ≡ w ∷ rest → slice_get desks w.desk ≡ Some desk → slice_get slots w.desk ≡ Some slot
      → IsFresh desk slot × (length w.asks ≤ slot.parts)
  has_parts workers so_far items rest desks slots w desk slot are next desk_is slot_is =
      let whole : so_far ++ w ∷ rest ≡ workers = ap (λ l. so_far ++ l) (sym next) ∙ are.whole in
      let h = are.given w.desk desk slot desk_is slot_is in
      (h.0, omega (arith, h.1, h.2, (asks_at_own so_far rest workers w whole).1))

  pub assigns_next : (workers so_far items rest : List (Worker A)) (desks : List (Desk V A B O)) (slots : List (Slot V A B O g)) (w : Worker A) (desk : Desk V A B O) (old new : Slot V A B O g)
      → AreAssigned workers so_far items desks slots → items ≡ w ∷ rest → slice_get desks w.desk ≡ Some desk → slice_get slots w.desk ≡ Some old
      → IsFresh desk new → new.parts + length w.asks ≡ old.parts
      → AreAssigned workers (so_far ++ w ∷ []) rest desks (slice_set slots w.desk new)
  assigns_next workers so_far items rest desks slots w desk old new are next desk_is old_is fresh left =
      let whole : so_far ++ w ∷ rest ≡ workers = ap (λ l. so_far ++ l) (sym next) ∙ are.whole in
      record {
        whole = whole_next so_far w rest workers items are.whole next;
        len = (let n = are.len in grind (arith, common_steps));
        given =
            each_set (λ at desk slot. FreshAt (asks_at at workers) (asks_at at so_far) desk slot) (λ at desk slot. FreshAt (asks_at at workers) (asks_at at (so_far ++ w ∷ [])) desk slot) desks slots w.desk new are.given
            (λ k x y apart h. (h.0, omega (arith, h.1, asks_at_other k so_far w apart), h.2, h.3))
            (λ x x_is.
            let h = are.given w.desk desk old desk_is old_is in
            let same : desk ≡ x = same_Some desk x (sym desk_is ∙ x_is) in
            subst (λ d. FreshAt (asks_at w.desk workers) (asks_at w.desk (so_far ++ w ∷ [])) d new) same
            (fresh, omega (arith, h.1, left, (asks_at_own so_far rest workers w whole).0), h.2, h.3));
      }

  pub assigns_none : (workers so_far items rest : List (Worker A)) (desks : List (Desk V A B O)) (slots : List (Slot V A B O g)) (w : Worker A)
      → AreAssigned workers so_far items desks slots → items ≡ w ∷ rest → length w.asks ≡ 0 → AreAssigned workers (so_far ++ w ∷ []) rest desks slots
  assigns_none workers so_far items rest desks slots w are next none =
      record {
        whole = whole_next so_far w rest workers items are.whole next;
        len = are.len;
        given = λ k x y x_is y_is. let h = are.given k x y x_is y_is in (h.0, omega (arith, h.1, asks_at_idle k so_far w none), h.2, h.3);
      }
