-- The passes as they come back, one after the other.
use Rattle.std.proofs.Common.{◌≡◌, ◌==◌, ◌+◌, ℕ, List, [], ◌∷◌, ◌++◌, Bool, true, false, cond, length, map, filter, slice_get, slice_set, Option, Some, None, IfSome, All, ap, ◌∙◌, sym, refl, subst, arith}
use Rattle.std.proofs.lemmas.Grind.{common_steps}
use Rattle.std.proofs.lemmas.Option.{same_Some}
use Rattle.std.proofs.lemmas.Bool.Decides.{nat_tests}
use Rattle.std.proofs.lemmas.List.Elements.{All-push}
use Rattle.std.proofs.lemmas.List.Sums.{sum_by-cons}
use Rattle.turn_desk.specs.declared.desk.Desk.{Desk}
use Rattle.turn_desk.specs.declared.pass.Pass.{Pass}
use Rattle.turn_desk.specs.declared.turn.Turn.{Ghosts}
use Rattle.turn_desk.specs.Passes.{parts_of, turns, IsPassOf}
use Rattle.desk_workers.specs.declared.shift.Worked.{Worked}
use Rattle.desk_workers.specs.declared.slot.Slot.{Slot}
use Rattle.desk_workers.specs.Places.{Each, IsBack, IsThere, task_of, tasks_of, lists_to, asks_to}
use Rattle.desk_workers.specs.Standing.{Stands, TakesBack, HasWorked, asks_in}
use Rattle.desk_workers.proofs.Eachs.{each_set, none_left, yielded_all}
use Rattle.desk_workers.proofs.Shifts.{whole_next, all_next}

module _ {A : Type 0} where
  -- a task at this place, and one at another
  pub lists_here : (at : ℕ) (tasks : List (ℕ × List A)) (asks : List A) → lists_to at (tasks ++ (at, asks) ∷ []) ≡ lists_to at tasks ++ asks ∷ []
  lists_here at [] asks = let e : (at == at) ≡ true = grind (arith, nat_tests) in rw e refl
  lists_here at (task ∷ tasks) asks = let h = lists_here at tasks asks in here (task.0 == at) h where
    here : (b : Bool) → lists_to at (tasks ++ (at, asks) ∷ []) ≡ lists_to at tasks ++ asks ∷ []
        → map (λ (t : ℕ × List A). t.1) (cond b (task ∷ filter (λ t. t.0 == at) (tasks ++ (at, asks) ∷ [])) (filter (λ t. t.0 == at) (tasks ++ (at, asks) ∷ []))) ≡ map (λ (t : ℕ × List A). t.1) (cond b (task ∷ filter (λ t. t.0 == at) tasks) (filter (λ t. t.0 == at) tasks)) ++ asks ∷ []
    here true h = ap (λ l. task.1 ∷ l) h
    here false h = h

  pub lists_elsewhere : (k at : ℕ) (tasks : List (ℕ × List A)) (asks : List A) → (k ≡ at → ⊥) → lists_to k (tasks ++ (at, asks) ∷ []) ≡ lists_to k tasks
  lists_elsewhere k at [] asks no' = let e : (at == k) ≡ false = grind (arith, nat_tests) in rw e refl
  lists_elsewhere k at (task ∷ tasks) asks no' = there (task.0 == k) (lists_elsewhere k at tasks asks no') where
    there : (b : Bool) → lists_to k (tasks ++ (at, asks) ∷ []) ≡ lists_to k tasks
        → map (λ (t : ℕ × List A). t.1) (cond b (task ∷ filter (λ t. t.0 == k) (tasks ++ (at, asks) ∷ [])) (filter (λ t. t.0 == k) (tasks ++ (at, asks) ∷ []))) ≡ map (λ (t : ℕ × List A). t.1) (cond b (task ∷ filter (λ t. t.0 == k) tasks) (filter (λ t. t.0 == k) tasks))
    there true h = ap (λ l. task.1 ∷ l) h
    there false h = h

  pub asks_here : (at : ℕ) (asks : List A) (tasks : List (ℕ × List A)) → asks_to at ((at, asks) ∷ tasks) ≡ length asks + asks_to at tasks
  asks_here at asks tasks = let e : (at == at) ≡ true = grind (arith, nat_tests) in rw e (sum_by-cons length asks (lists_to at tasks))

  pub asks_elsewhere : (k at : ℕ) (asks : List A) (tasks : List (ℕ × List A)) → (k ≡ at → ⊥) → asks_to k ((at, asks) ∷ tasks) ≡ asks_to k tasks
  asks_elsewhere k at asks tasks no' = let e : (at == k) ≡ false = grind (arith, nat_tests) in rw e refl

module _ {V A B O : Type 0} {g : Ghosts V A B O} (is_answer : O → B → Type 0) (opening : V → O) where
  pub record AreBack (desks : List (Desk V A B O)) (back so_far rest : List (Option (Worked V A B O g))) (slots : List (Slot V A B O g)) : Type 0 where
    pub whole : so_far ++ rest ≡ back
    pub len : length slots ≡ length desks
    pub there : All IsThere so_far
    pub stand : Each (λ at desk slot. Stands is_answer opening desk (asks_to at (tasks_of rest)) (lists_to at (tasks_of so_far)) slot.pass) desks slots

  pub is_back : (desks : List (Desk V A B O)) (back so_far items rest : List (Option (Worked V A B O g))) (slots : List (Slot V A B O g)) (worked : Worked V A B O g)
      → All (IsBack is_answer opening desks) back → AreBack desks back so_far items slots → items ≡ Some worked ∷ rest
      → (desk : Desk V A B O) × (slice_get desks worked.place ≡ Some desk) × HasWorked is_answer opening desk (asks_in (turns worked.pass)) worked.pass
  is_back desks back so_far items rest slots worked all are next =
      all_next (IsBack is_answer opening desks) so_far (Some worked) rest back (ap (λ l. so_far ++ l) (sym next) ∙ are.whole) all

  -- the pass at hand is of the desk
  pub own_pass : (desk : Desk V A B O) (out : ℕ) (lists : List (List A)) (slot : Option (Pass V A B O g)) → Stands is_answer opening desk out lists slot → IfSome slot (λ pass. IsPassOf desk pass)
  own_pass desk out lists None stands = tt
  own_pass desk out lists (Some pass) stands = stands.0

  pub stands_next : (desks : List (Desk V A B O)) (so_far rest : List (Option (Worked V A B O g))) (slots : List (Slot V A B O g)) (worked : Worked V A B O g) (desk : Desk V A B O) (old new : Slot V A B O g)
      → slice_get desks worked.place ≡ Some desk → slice_get slots worked.place ≡ Some old → parts_of worked.pass ≡ length (asks_in (turns worked.pass))
      → TakesBack is_answer opening desk worked.pass old.pass new.pass
      → Each (λ at desk slot. Stands is_answer opening desk (asks_to at (tasks_of (Some worked ∷ rest))) (lists_to at (tasks_of so_far)) slot.pass) desks slots
      → Each (λ at desk slot. Stands is_answer opening desk (asks_to at (tasks_of rest)) (lists_to at (tasks_of so_far ++ task_of (Some worked) ∷ [])) slot.pass) desks (slice_set slots worked.place new)
  stands_next desks so_far rest slots worked desk old new desk_is old_is parts takes each =
      let asks = asks_in (turns worked.pass) in let place = worked.place in
      each_set (λ at desk slot. Stands is_answer opening desk (asks_to at (tasks_of (Some worked ∷ rest))) (lists_to at (tasks_of so_far)) slot.pass)
      (λ at desk slot. Stands is_answer opening desk (asks_to at (tasks_of rest)) (lists_to at (tasks_of so_far ++ (place, asks) ∷ [])) slot.pass) desks slots place new each
      (λ k x y no' stands.
      subst (λ lists. Stands is_answer opening x (asks_to k (tasks_of rest)) lists y.pass) (sym (lists_elsewhere k place (tasks_of so_far) asks no'))
      (subst (λ (n : ℕ). Stands is_answer opening x n (lists_to k (tasks_of so_far)) y.pass) (asks_elsewhere k place asks (tasks_of rest) no') stands))
      (λ x x_is.
      let same : desk ≡ x = same_Some desk x (sym desk_is ∙ x_is) in
      let stands = each place desk old desk_is old_is in
      let out : asks_to place (tasks_of (Some worked ∷ rest)) ≡ parts_of worked.pass + asks_to place (tasks_of rest) = omega (arith, asks_here place asks (tasks_of rest), parts) in
      subst (λ d. Stands is_answer opening d (asks_to place (tasks_of rest)) (lists_to place (tasks_of so_far ++ (place, asks) ∷ [])) new.pass) same
      (subst (λ lists. Stands is_answer opening desk (asks_to place (tasks_of rest)) lists new.pass) (sym (lists_here place (tasks_of so_far) asks))
      (takes (asks_to place (tasks_of rest)) (lists_to place (tasks_of so_far)) (subst (λ (n : ℕ). Stands is_answer opening desk n (lists_to place (tasks_of so_far)) old.pass) out stands))))

  tasks_last : (so_far : List (Option (Worked V A B O g))) (done : Option (Worked V A B O g)) → tasks_of (so_far ++ done ∷ []) ≡ tasks_of so_far ++ task_of done ∷ []
  tasks_last [] done = refl
  tasks_last (first ∷ so_far) came = ap (λ l. task_of first ∷ l) (tasks_last so_far came)

  pub gathers_next : (desks : List (Desk V A B O)) (back so_far items rest : List (Option (Worked V A B O g))) (slots : List (Slot V A B O g)) (done : Option (Worked V A B O g)) (worked : Worked V A B O g) (desk : Desk V A B O) (old new : Slot V A B O g)
      → All (IsBack is_answer opening desks) back → AreBack desks back so_far items slots → items ≡ done ∷ rest → done ≡ Some worked
      → slice_get desks worked.place ≡ Some desk → slice_get slots worked.place ≡ Some old → TakesBack is_answer opening desk worked.pass old.pass new.pass
      → AreBack desks back (so_far ++ done ∷ []) rest (slice_set slots worked.place new)
  gathers_next desks back so_far items rest slots done worked desk old new all are next done_is desk_is old_is takes =
      let some_next : items ≡ Some worked ∷ rest = next ∙ ap (λ d. d ∷ rest) done_is in
      let h = is_back desks back so_far items rest slots worked all are some_next in
      let tasks : tasks_of (so_far ++ done ∷ []) ≡ tasks_of so_far ++ task_of (Some worked) ∷ [] = tasks_last so_far done ∙ ap (λ d. tasks_of so_far ++ task_of d ∷ []) done_is in
      let before = subst (λ l. Each (λ at desk slot. Stands is_answer opening desk (asks_to at (tasks_of l)) (lists_to at (tasks_of so_far)) slot.pass) desks slots) some_next are.stand in
      let after = stands_next desks so_far rest slots worked desk old new desk_is old_is h.2.parts takes before in
      record {
        whole = whole_next so_far done rest back items are.whole next;
        len = (let n = are.len in grind (arith, common_steps));
        there = All-push IsThere so_far done are.there (worked, done_is);
        stand = subst (λ tasks. Each (λ at desk slot. Stands is_answer opening desk (asks_to at (tasks_of rest)) (lists_to at tasks) slot.pass) desks (slice_set slots worked.place new)) (sym tasks) after;
      }

  -- where the pass comes back to
  pub back_at : (desks : List (Desk V A B O)) (back so_far items rest : List (Option (Worked V A B O g))) (slots : List (Slot V A B O g)) (done : Option (Worked V A B O g)) (worked : Worked V A B O g)
      → All (IsBack is_answer opening desks) back → AreBack desks back so_far items slots → items ≡ done ∷ rest → done ≡ Some worked
      → (desk : Desk V A B O) × (slice_get desks worked.place ≡ Some desk) × HasWorked is_answer opening desk (asks_in (turns worked.pass)) worked.pass
  back_at desks back so_far items rest slots done worked all are next done_is = is_back desks back so_far items rest slots worked all are (next ∙ ap (λ d. d ∷ rest) done_is)

  pub gathered : (desks : List (Desk V A B O)) (back so_far rest : List (Option (Worked V A B O g))) (slots : List (Slot V A B O g)) → AreBack desks back so_far rest slots → length rest ≡ 0
      → All IsThere back × Each (λ at desk slot. Stands is_answer opening desk 0 (lists_to at (tasks_of back)) slot.pass) desks slots
  gathered desks back so_far rest slots are none =
      let all : so_far ≡ back = yielded_all back so_far rest are.whole none in
      let stand = subst (λ l. Each (λ at desk slot. Stands is_answer opening desk (asks_to at (tasks_of l)) (lists_to at (tasks_of so_far)) slot.pass) desks slots) (none_left rest none) are.stand in (
        subst (λ l. All IsThere l) all are.there,
        subst (λ l. Each (λ at desk slot. Stands is_answer opening desk 0 (lists_to at (tasks_of l)) slot.pass) desks slots) all stand,
      )
