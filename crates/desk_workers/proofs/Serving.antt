-- From the values to the desks, and back.
use Rattle.std.proofs.Common.{◌≡◌, ◌+◌, ◌<◌, ◌≤◌, ℕ, suc, List, [], ◌∷◌, map, length, take, slice_get, slice_index_or, Option, Some, None, IfSome, Result, Ok, Err, IfOk, All, ap, ◌∙◌, sym, refl, subst, arith}
use Rattle.std.proofs.lemmas.Grind.{common_steps}
use Rattle.std.proofs.lemmas.Option.{none-some, slice_get_within}
use Rattle.std.proofs.lemmas.List.Elements.{All-more, All-weaker, All-head, All-tail, All-cons, All-nil}
use Rattle.turn_desk.specs.declared.desk.Desk.{Desk}
use Rattle.turn_desk.specs.declared.pass.Pass.{Pass}
use Rattle.turn_desk.specs.declared.turn.Turn.{Ghosts}
use Rattle.turn_desk.specs.Line.{served}
use Rattle.turn_desk.specs.Passes.{opening_of, all_parts, turns}
use Rattle.desk_workers.specs.declared.shift.Worked.{Worked}
use Rattle.desk_workers.specs.declared.slot.Slot.{Slot}
use Rattle.desk_workers.specs.declared.worker.Worker.{Worker}
use Rattle.desk_workers.specs.Interleaving.{Interleaves, asks_of}
use Rattle.desk_workers.specs.Places.{Each, FreshAt, FitsAt, busy, lists_to, task_of, tasks_of, IsBack, IsThere, IsWhole, ClosesAs}
use Rattle.desk_workers.specs.Standing.{HasWorked, IsFreshPass, Stands, asks_in}
use Rattle.desk_workers.specs.Workers.{lists_at}
use Rattle.desk_workers.proofs.Eachs.{there_is}
use Rattle.desk_workers.proofs.Tasks.{busy_lists}

-- the workers' asks fit the desks' values as they fit the values
pub fits_at : {V A B O : Type 0} (fits : O → A → Type 0) (opening : V → O) (values : List V) (desks : List (Desk V A B O)) (workers : List (Worker A)) → length desks ≡ length values
    → Each (λ at value desk. opening_of opening desk ≡ opening value) values desks
    → All (λ (w : Worker A). (value : V) → slice_get values w.desk ≡ Some value → All (fits (opening value)) w.asks) workers
    → All (λ (w : Worker A). FitsAt fits opening desks w.desk w.asks) workers
fits_at {V = V} {A = A} fits opening values desks workers len opened fit =
    All-weaker (λ (w : Worker A). (value : V) → slice_get values w.desk ≡ Some value → All (fits (opening value)) w.asks) (λ (w : Worker A). FitsAt fits opening desks w.desk w.asks)
    (λ w h desk desk_is.
    let value = there_is values w.desk (omega (arith, slice_get_within desks w.desk desk desk_is, len)) in
    subst (λ o. All (fits o) w.asks) (sym (opened w.desk value.0 desk value.1 desk_is)) (h value.0 value.1))
    workers fit

module _ {V A B O : Type 0} {g : Ghosts V A B O} (is_answer : O → B → Type 0) (opening : V → O) where
  -- all passes that have asks are away, and those at hand took no turn
  pub stands_first : (desk : Desk V A B O) (slot : Slot V A B O g) (asks out : ℕ) → FreshAt asks out desk slot → Stands is_answer opening desk out [] slot.pass
  stands_first desk slot asks out h = by_pass slot.pass h.0 where
    by_pass : (pass : Option (Pass V A B O g)) → IsFreshPass desk slot.parts pass → Stands is_answer opening desk out [] pass
    by_pass None none = (omega (arith, none, h.1), refl)
    by_pass (Some pass) fresh =
        let no_turns : served (turns pass) ≡ [] = ap served fresh.2 in (
          fresh.0,
          omega (arith, fresh.1, h.1),
          ap asks_of no_turns,
          subst (λ l. All (λ (turn : A × B). is_answer (opening_of opening desk) turn.1) l) (sym no_turns) (All-nil (λ (turn : A × B). is_answer (opening_of opening desk) turn.1)),
        )

  -- all passes are back
  pub whole_again : (desk : Desk V A B O) (lists : List (List A)) (pass : Option (Pass V A B O g)) → 0 < all_parts desk → Stands is_answer opening desk 0 lists pass → IsWhole desk pass
  whole_again desk lists None some stands = absurd (omega (arith, some, stands.0))
  whole_again desk lists (Some pass) some stands = (pass, refl, stands.0, omega (arith, stands.1))

module _ {V A B O : Type 0} {g : Ghosts V A B O} where
  pub there_more : (back : List (Option (Worked V A B O g))) (i : ℕ) (done : Option (Worked V A B O g)) (worked : Worked V A B O g) → i < length back → done ≡ slice_index_or back i done → done ≡ Some worked
      → All IsThere (take i back) → All IsThere (take (i + 1) back)
  there_more back i done worked within at is all =
      All-more IsThere back i done within all (subst (λ d. IsThere d) at (worked, is))

  pub there_whole : (back : List (Option (Worked V A B O g))) (i : ℕ) → length back ≤ i → All IsThere (take i back) → All IsThere back
  there_whole back i past all = let whole : take i back ≡ back = grind (arith, common_steps) in subst (λ l. All IsThere l) whole all

module _ {V A B O : Type 0} {g : Ghosts V A B O} (is_answer : O → B → Type 0) (opening : V → O) (desks : List (Desk V A B O)) where
  one_back : (done : Option (Worked V A B O g)) (place : ℕ) (asks : List A) (desk : Desk V A B O) → IfSome done (λ worked. (worked.place ≡ place) × HasWorked is_answer opening desk asks worked.pass)
      → slice_get desks place ≡ Some desk → IsBack is_answer opening desks done × (IsThere done → task_of done ≡ (place, asks))
  one_back None place asks desk gives desk_is = (tt, λ there. absurd (none-some there.0 there.1))
  one_back (Some worked) place asks desk gives desk_is =
      let w = gives.1 in (
        (
          desk,
          subst (λ (k : ℕ). slice_get desks k ≡ Some desk) (sym gives.0) desk_is,
          record { own = w.own; parts = w.parts ∙ ap length (sym w.asked); asked = refl; answered = w.answered },
        ),
        (λ there. ap (λ (k : ℕ). (k, asks_in (turns worked.pass))) gives.0 ∙ ap (λ (l : List A). (place, l)) w.asked),
      )

  -- what the jobs gave back, in their order
  pub after_run : {J : Type 0} (place : J → ℕ) (asks : J → List A) (desk : J → Desk V A B O) (jobs : List J) (back : List (Option (Worked V A B O g))) → length back ≡ length jobs
      → ((i : ℕ) (job : J) (done : Option (Worked V A B O g)) → i < length jobs → IfSome (slice_index_or back i done) (λ worked. (worked.place ≡ place (slice_index_or jobs i job)) × HasWorked is_answer opening (desk (slice_index_or jobs i job)) (asks (slice_index_or jobs i job)) worked.pass))
      → All (λ job. slice_get desks (place job) ≡ Some (desk job)) jobs
      → All (IsBack is_answer opening desks) back × (All IsThere back → tasks_of back ≡ map (λ job. (place job, asks job)) jobs)
  after_run place asks desk [] [] len gives placed = (All-nil (IsBack is_answer opening desks), λ there. refl)
  after_run place asks desk [] (done ∷ back) len gives placed = absurd (omega (arith, len))
  after_run place asks desk (job ∷ jobs) [] len gives placed = absurd (omega (arith, len))
  after_run place asks desk (job ∷ jobs) (done ∷ back) len gives placed =
      let one = one_back done (place job) (asks job) (desk job) (gives 0 job done (omega arith)) (All-head (λ job. slice_get desks (place job) ≡ Some (desk job)) job jobs placed) in
      let rest = after_run place asks desk jobs back (omega (arith, len)) (λ i j d within. gives (suc i) j d (omega (arith, within))) (All-tail (λ job. slice_get desks (place job) ≡ Some (desk job)) job jobs placed) in (
        All-cons (IsBack is_answer opening desks) done back one.0 rest.0,
        λ there. ap (λ task. task ∷ tasks_of back) (one.1 (All-head IsThere done back there)) ∙ ap (λ tasks. (place job, asks job) ∷ tasks) (rest.1 (All-tail IsThere done back there)),
      )

module _ {V A B O : Type 0} {g : Ghosts V A B O} (is_answer : O → B → Type 0) (history : V → List (A × B)) (opening : V → O) where
  -- the value that comes back from a desk
  pub ended : (workers : List (Worker A)) (tasks : List (ℕ × List A)) (desks : List (Desk V A B O)) (slots : List (Slot V A B O g)) (after : List V) → tasks ≡ busy workers → length after ≡ length desks → length slots ≡ length desks
      → Each (λ at desk slot. Stands is_answer opening desk 0 (lists_to at tasks) slot.pass) desks slots → Each (λ at desk slot. IsWhole desk slot.pass) desks slots
      → ((at : ℕ) (desk : Desk V A B O) (slot : Slot V A B O g) (value : V) → slice_get desks at ≡ Some desk → slice_get slots at ≡ Some slot → slice_get after at ≡ Some value → ClosesAs history opening desk slot.pass value)
      → (at : ℕ) (value : V) → slice_get after at ≡ Some value
      → (desk : Desk V A B O) × (slice_get desks at ≡ Some desk) × (opening value ≡ opening_of opening desk) × Interleaves (lists_at at workers) (asks_of (history value)) × All (λ (turn : A × B). is_answer (opening value) turn.1) (history value)
  ended workers tasks desks slots after tasks_are len slots_len stand whole closes at value value_is =
      let within = slice_get_within after at value value_is in
      let desk = there_is desks at (omega (arith, within, len)) in
      let slot = there_is slots at (omega (arith, within, len, slots_len)) in
      let w = whole at desk.0 slot.0 desk.1 slot.1 in
      let c = closes at desk.0 slot.0 value desk.1 slot.1 value_is w.0 w.1 in
      let s = subst (λ pass. Stands is_answer opening desk.0 0 (lists_to at tasks) pass) w.1 (stand at desk.0 slot.0 desk.1 slot.1) in
      let order = busy_lists at workers (asks_in (turns w.0)) (subst (λ ts. Interleaves (lists_to at ts) (asks_in (turns w.0))) tasks_are s.2) in (
        desk.0,
        desk.1,
        c.0,
        subst (λ h. Interleaves (lists_at at workers) (asks_of h)) (sym c.1) order,
        subst (λ o. All (λ (turn : A × B). is_answer o turn.1) (history value)) (sym c.0) (subst (λ h. All (λ (turn : A × B). is_answer (opening_of opening desk.0) turn.1) h) (sym c.1) s.3),
      )

pub if_both : {X E : Type 0} (r : Result X E) {P Q S : X → Type 0} → IfOk r P → IfOk r Q → ((x : X) → P x → Q x → S x) → IfOk r S
if_both (Ok x) p q f = f x p q
if_both (Err e) p q f = tt

pub if_ok : {X E : Type 0} (r : Result X E) {P Q : X → Type 0} → IfOk r P → ((x : X) → P x → Q x) → IfOk r Q
if_ok (Ok x) p f = f x p
if_ok (Err e) p f = tt
