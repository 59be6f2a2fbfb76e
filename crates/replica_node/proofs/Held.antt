-- A replica that takes or lets go of what is in hand.
use Rattle.std.proofs.Common.{◌≡◌, ◌≢◌, inl, inr, ℕ, ◌+◌, ◌<◌, ◌≤◌, List, [], ◌∷◌, ◌++◌, length, refl, sym, ap, subst, ◌∙◌, arith, length-set, append-nil, get_or-set_other, get_or-set_same}
use Rattle.std.specs.Prelude.{slice_get, slice_index_or, slice_set, OnOk, IfOk, Option, Some, None, Result, Ok, Err}
use Rattle.std.proofs.lemmas.List.{append_cancel_right}
use Rattle.spec_model.specs.declared.plan.Setup.{Setup}
use Rattle.run_model.specs.declared.batch.Batch.{Batch}
use Rattle.run_model.specs.declared.message.Message.{Message}
use Rattle.run_model.specs.declared.step.Ask.{Ask}
use Rattle.run_model.specs.declared.step.Ask.TheVariants as asks
use Rattle.run_model.specs.declared.step.StepEntry.{StepEntry}
use Rattle.run_model.specs.Worlds.{Running, Up}
use Rattle.batch_storage.specs.Shown.{Costs, Shown}
use Rattle.replica_course.specs.Courses.{HasStops, running_of}
use Rattle.replica_course.specs.Steps.{IsBroken}
use Rattle.replica_course.specs.declared.heard.Heard.{Heard}
use Rattle.replica_course.specs.declared.heard.Heard.TheVariants as heard
use Rattle.replica_course.proofs.Spent.{stops_more}
use Rattle.replica_node.specs.Closing.{AddsClosing, HasReceived, IsClosing, TakesFront}
use Rattle.replica_node.specs.Nodes.{IsHandFrom, IsStill, StaysStill, as_list, in_hand, message_in, number_in}
use Rattle.replica_node.specs.Steps.{AddsEntry, IsOf, RestsDown}
use Rattle.replica_node.specs.declared.still.Still.{Still}
use Rattle.replica_node.proofs.Grown.{from_set, hand_at}
use Rattle.replica_node.proofs.Taking.{takes_nothing}

-- what is in hand, where something is
message_held : (from : ℕ) (h : Heard) → IsHandFrom from h → (h ≡ heard.Nothing → ⊥) → (m : Message) × (h ≡ heard.Message m) × (m.from ≡ from)
message_held from heard.Nothing is some = absurd (some refl)
message_held from (heard.Unsent stamp) is some = absurd is
message_held from (heard.Message m) is some = (m, refl, is)

module _ {S D : Type 0} (keeps : S → ℕ → List Batch → Running → Type 0) (shows : S → Shown) (setup : Setup) (from : ℕ) where
  -- the hand is emptied
  pub hand_emptied : (me : ℕ) (taken put : ℕ → List Message) (mid new : Still S D) → IsStill keeps setup me taken put mid → from < length mid.hands → new ≡ record mid { hands = slice_set mid.hands from heard.Nothing } → IsStill keeps setup me taken put new
  hand_emptied me taken put mid new is lt becomes = subst (IsStill keeps setup me taken put) (sym becomes) (record {
    own = is.own;
    kept = is.kept;
    sendings = is.sendings;
    alone = is.alone;
    hands = length-set mid.hands from heard.Nothing ∙ is.hands;
    from = from_set mid.hands from heard.Nothing is.from lt tt;
  })

  -- so it is where a replica that is down let go of it
  pub lets_go : (me : ℕ) (old mid new : Still S D) (taken put : ℕ → List Message) → StaysStill keeps setup me old mid → mid.hands ≡ old.hands → from < setup.replicas → new ≡ record mid { hands = slice_set mid.hands from heard.Nothing }
      → IsStill keeps setup me taken put old → (after : ℕ → List Message) × IsStill keeps setup me after put new × ((j : ℕ) → after j ≡ taken j)
  lets_go me old mid new taken put stays hands lt becomes is =
      let after = takes_nothing keeps setup me old mid taken put stays hands is in
      (after.0, hand_emptied me after.0 put mid new after.1 (omega (arith, lt, after.1.hands)) becomes, after.2)

  -- what a call of it leaves of other hands
  hand_now : (old new : Still S D) → from < length old.hands → new.hands ≡ slice_set old.hands from heard.Nothing → in_hand new.hands from ≡ []
  hand_now old new lt hands = ap (λ (hs : List Heard). in_hand hs from) hands ∙ ap (λ (x : Heard). as_list (message_in x)) (get_or-set_same old.hands from heard.Nothing heard.Nothing lt)

  others_now : (old new : Still S D) → new.hands ≡ slice_set old.hands from heard.Nothing → (j : ℕ) → j ≢ from → in_hand new.hands j ≡ in_hand old.hands j
  others_now old new hands j other = ap (λ (hs : List Heard). in_hand hs j) hands ∙ ap (λ (x : Heard). as_list (message_in x)) (get_or-set_other old.hands from j heard.Nothing heard.Nothing other)

  -- a replica that is up took it
  pub held_taken : (old new : Still S D) (e : StepEntry) → (taken put : ℕ → List Message) × IsStill keeps setup old.course.me taken put old → from < setup.replicas → (slice_index_or old.hands from heard.Nothing ≡ heard.Nothing → ⊥)
      → StaysStill keeps setup old.course.me old new → new.hands ≡ slice_set old.hands from heard.Nothing → e.ask ≡ asks.Take from (number_in (slice_index_or old.hands from heard.Nothing))
      → IsOf old.course new.course × AddsEntry (asks.Take from None) e old.course new.course → Costs (shows old.storage) (shows new.storage) (IsBroken e.outcome)
      → HasReceived keeps shows setup from (in_hand old.hands from) old new
  held_taken old new e own within some stays hands asked answers costs =
      let h : Heard = slice_index_or old.hands from heard.Nothing in
      let lt : from < length old.hands = omega (arith, within, own.2.hands) in
      let held = message_held from h (hand_at old.hands from own.2.from lt) some in
      let m : Message = held.0 in
      let one : in_hand old.hands from ≡ m ∷ [] = ap (λ (x : Heard). as_list (message_in x)) held.1 in
      let empty = hand_now old new lt hands in
      let is_closing : IsClosing m e = inl (asked ∙ ap (λ (x : Heard). asks.Take from (number_in x)) held.1 ∙ ap (λ i. asks.Take i (Some m.number)) (sym held.2)) in
      record {
        takes = λ taken put is.
            let after = stays taken put is in
            record {
              after = after.0;
              still = after.1;
              front = in_hand old.hands from;
              is_front = ([], sym (append-nil (in_hand old.hands from)));
              all = λ up. refl;
              took = sym (append-nil (after.0 from)) ∙ ap (λ (ms : List Message). after.0 from ++ ms) (sym empty) ∙ after.2 from;
              others = λ j other. append_cancel_right (after.0 j) (taken j) (in_hand old.hands j) (ap (λ (ms : List Message). after.0 j ++ ms) (sym (others_now old new hands j other)) ∙ after.2 j);
            };
        emptied = empty;
        held = others_now old new hands;
        same = answers.0;
        closing = subst (λ ms. AddsClosing ms old.course new.course) (sym one) (record { closing = e ∷ []; are = (is_closing, tt); entries = answers.1.entries });
        stops = λ given was. stops_more given (shows old.storage) (shows new.storage) old.course new.course e costs answers.1.entries answers.0.first_up was;
      }

  -- and one that is down let go of it
  pub held_gone : (old new : Still S D) (e : StepEntry) → (taken put : ℕ → List Message) × IsStill keeps setup old.course.me taken put old → from < setup.replicas → (slice_index_or old.hands from heard.Nothing ≡ heard.Nothing → ⊥) → (running_of old.course ≡ Up → ⊥)
      → ((taken put : ℕ → List Message) → IsStill keeps setup old.course.me taken put old → (after : ℕ → List Message) × IsStill keeps setup old.course.me after put new × ((j : ℕ) → after j ≡ taken j))
      → new.hands ≡ slice_set old.hands from heard.Nothing → RestsDown (asks.Take from None) old.course e new.course
      → IsOf old.course new.course × AddsEntry (asks.Take from None) e old.course new.course → Costs (shows old.storage) (shows new.storage) (IsBroken e.outcome)
      → HasReceived keeps shows setup from (in_hand old.hands from) old new
  held_gone old new e own within some down stays hands rests answers costs =
      let h : Heard = slice_index_or old.hands from heard.Nothing in
      let lt : from < length old.hands = omega (arith, within, own.2.hands) in
      let held = message_held from h (hand_at old.hands from own.2.from lt) some in
      let m : Message = held.0 in
      let one : in_hand old.hands from ≡ m ∷ [] = ap (λ (x : Heard). as_list (message_in x)) held.1 in
      let is_closing : IsClosing m e = inr (rests.0 ∙ ap (λ i. asks.Take i None) (sym held.2), rests.1) in
      record {
        takes = λ taken put is.
            let after = stays taken put is in
            record {
              after = after.0;
              still = after.1;
              front = [];
              is_front = (in_hand old.hands from, refl);
              all = λ up. absurd (down (sym rests.2 ∙ up));
              took = after.2 from ∙ sym (append-nil (taken from));
              others = λ j other. after.2 j;
            };
        emptied = hand_now old new lt hands;
        held = others_now old new hands;
        same = answers.0;
        closing = subst (λ ms. AddsClosing ms old.course new.course) (sym one) (record { closing = e ∷ []; are = (is_closing, tt); entries = answers.1.entries });
        stops = λ given was. stops_more given (shows old.storage) (shows new.storage) old.course new.course e costs answers.1.entries answers.0.first_up was;
      }

  -- it wants room for one entry
  pub held_room : (old : Still S D) → (taken put : ℕ → List Message) × IsStill keeps setup old.course.me taken put old → from < setup.replicas → (slice_index_or old.hands from heard.Nothing ≡ heard.Nothing → ⊥) → length old.course.entries + length (in_hand old.hands from) ≤ 100000 → length old.course.entries < 100000
  held_room old own within some room =
      let lt : from < length old.hands = omega (arith, within, own.2.hands) in
      let held = message_held from (slice_index_or old.hands from heard.Nothing) (hand_at old.hands from own.2.from lt) some in
      let one : length (in_hand old.hands from) ≡ 1 = ap (λ (x : Heard). length (as_list (message_in x))) held.1 in
      omega (arith, room, one)
