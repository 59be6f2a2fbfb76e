-- A replica that takes the messages that were left on a link to it.
use Rattle.std.proofs.Common.{◌≡◌, ◌≢◌, ◌⊎◌, inl, inr, ℕ, ◌+◌, ◌<◌, ◌≤◌, List, [], ◌∷◌, ◌++◌, length, refl, sym, ap, subst, ◌∙◌, arith, eq-eqb, ne_eqb}
use Rattle.std.specs.Prelude.{IfOk, Option, Some, None, Result, Ok, Err, if◌then◌else◌}
use Rattle.std.specs.List.{AllByRecursion}
use Rattle.std.proofs.lemmas.List.{append-nil, append_assoc, length-append}
use Rattle.spec_model.specs.declared.plan.Setup.{Setup}
use Rattle.run_model.specs.declared.batch.Batch.{Batch}
use Rattle.run_model.specs.declared.message.Message.{Message}
use Rattle.run_model.specs.declared.step.Ask.TheVariants as asks
use Rattle.run_model.specs.declared.step.StepEntry.{StepEntry}
use Rattle.run_model.specs.Worlds.{Running, Up, Down}
use Rattle.batch_storage.specs.Shown.{Costs, Shown}
use Rattle.local_runs.specs.Handed.{IsPeer}
use Rattle.replica_course.specs.Courses.{HasStops, running_of}
use Rattle.replica_course.specs.Steps.{IsBroken}
use Rattle.replica_course.specs.declared.course.Course.{Course}
use Rattle.replica_course.specs.declared.heard.Heard.{Heard}
use Rattle.replica_course.specs.declared.heard.Heard.TheVariants as heard
use Rattle.replica_node.specs.Closing.{AddsClosing, AreClosing, HasReceived, IsClosing, TakesFront}
use Rattle.replica_node.specs.Nodes.{IsStill, in_hand}
use Rattle.replica_node.specs.Steps.{AddsEntry, IsOf, RestsDown, taking}
use Rattle.replica_node.specs.declared.still.Still.{Still}
use Rattle.replica_course.proofs.Spent.{stops_more}

-- ---- one closing take

pub closes_up : {E : Type 0} (m : Message) (result : Result StepEntry E) → IfOk result (λ entry. entry.ask ≡ asks.Take m.from (Some m.number)) → IfOk result (IsClosing m)
closes_up m (Ok e) asked = inl asked
closes_up m (Err x) asked = tt

pub closes_down : {E : Type 0} (m : Message) (old new : Course) (result : Result StepEntry E) → (running_of old ≡ Up → ⊥) → IfOk result (λ entry. running_of old ≢ Up → RestsDown (asks.Take m.from None) old entry new) → IfOk result (IsClosing m)
closes_down m old new (Ok e) down rests = let it = rests down in inr (it.0, it.1)
closes_down m old new (Err x) down rests = tt

pub stays_down : {E : Type 0} (m : Message) (old new : Course) (result : Result StepEntry E) → IfOk result (λ entry. running_of old ≢ Up → RestsDown (asks.Take m.from None) old entry new) → IfOk result (λ entry. running_of old ≢ Up → running_of new ≢ Up)
stays_down m old new (Ok e) rests = λ down up. down (sym (rests down).2 ∙ up)
stays_down m old new (Err x) rests = tt

pub up_stays : {E : Type 0} (old new : Course) (result : Result StepEntry E) → running_of old ≡ Up → IfOk result (λ entry. running_of old ≢ Up → running_of new ≢ Up)
up_stays old new (Ok e) up = λ down. absurd (down up)
up_stays old new (Err x) up = tt

-- ---- all of them

pub none_left : {X : Type 0} (xs : List X) → length xs ≡ 0 → xs ≡ []
none_left [] none = refl
none_left (x ∷ xs) none = absurd (omega (arith, none))

-- the next of a list
pub next_of : (P : Message → Type 0) (all front left behind : List Message) (m : Message) → AllByRecursion P all → front ++ left ≡ all → left ≡ m ∷ behind → P m
next_of P all [] left behind m each is split = (subst (AllByRecursion P) (sym is ∙ split) each).0
next_of P all (x ∷ front) left behind m each is split = next_of P (front ++ left) front left behind m (subst (AllByRecursion P) (sym is) each).1 refl split

pub next_behind : (all front left behind : List Message) (m : Message) → front ++ left ≡ all → left ≡ m ∷ behind → (front ++ m ∷ []) ++ behind ≡ all
next_behind all front left behind m is split = append_assoc front (m ∷ []) behind ∙ ap (λ (ms : List Message). front ++ ms) (sym split) ∙ is

pub next_within : (all front left behind : List Message) (m : Message) → front ++ left ≡ all → left ≡ m ∷ behind → length front < length all
next_within all front left behind m is split = omega (arith, ap length is, length-append front left, ap length split)

closing_more : (left : List Message) (es : List StepEntry) (m : Message) (e : StepEntry) → AreClosing left es → IsClosing m e → AreClosing (left ++ m ∷ []) (es ++ e ∷ [])
closing_more [] [] m e are one = (one, tt)
closing_more [] (f ∷ es) m e are one = absurd are
closing_more (n ∷ left) [] m e are one = absurd are
closing_more (n ∷ left) (f ∷ es) m e are one = (are.0, closing_more left es m e are.1 one)

closing_long : (left : List Message) (es : List StepEntry) → AreClosing left es → length es ≡ length left
closing_long [] [] are = refl
closing_long [] (f ∷ es) are = absurd are
closing_long (n ∷ left) [] are = absurd are
closing_long (n ∷ left) (f ∷ es) are = omega (arith, closing_long left es are.1)

-- what a call of it leaves
pub record ReceivesOne {S D : Type 0} (keeps : S → ℕ → List Batch → Running → Type 0) (shows : S → Shown) (setup : Setup) (m : Message) (e : StepEntry) (old new : Still S D) : Type 0 where
  pub own : (taken put : ℕ → List Message) → IsStill keeps setup old.course.me taken put old → (after : ℕ → List Message) × IsStill keeps setup old.course.me after put new × ((from : ℕ) → after from ≡ taking (running_of old.course) m taken from)
  pub hands : new.hands ≡ old.hands
  pub same : IsOf old.course new.course
  pub entries : new.course.entries ≡ old.course.entries ++ e ∷ []
  pub closing : IsClosing m e
  pub down : running_of old.course ≢ Up → running_of new.course ≢ Up
  pub stops : (given : ℕ) → HasStops given (shows old.storage) old.course → HasStops given (shows new.storage) new.course

up_or_down : (r : Running) → (r ≡ Up) ⊎ (r ≡ Up → ⊥)
up_or_down Up = inl refl
up_or_down (Down pending) = inr differ
  where
    differ : Down pending ≡ Up → ⊥
    differ is = cc

taking_here : (m : Message) (taken : ℕ → List Message) (j : ℕ) → j ≡ m.from → taking Up m taken j ≡ taken j ++ m ∷ []
taking_here m taken j same = ap (λ b. if b then taken j ++ m ∷ [] else taken j) (eq-eqb j m.from same)

taking_there : (m : Message) (taken : ℕ → List Message) (j : ℕ) → (j ≡ m.from → ⊥) → taking Up m taken j ≡ taken j
taking_there m taken j other = ap (λ b. if b then taken j ++ m ∷ [] else taken j) (ne_eqb j m.from other)

taking_none : (running : Running) (m : Message) (taken : ℕ → List Message) (j : ℕ) → (running ≡ Up → ⊥) → taking running m taken j ≡ taken j
taking_none Up m taken j down = absurd (down refl)
taking_none (Down pending) m taken j down = refl

module _ {S D : Type 0} (keeps : S → ℕ → List Batch → Running → Type 0) (shows : S → Shown) (setup : Setup) (from : ℕ) where
  -- nothing was in hand
  pub received_none : (s : Still S D) → in_hand s.hands from ≡ [] → HasReceived keeps shows setup from [] s s
  received_none s free = record {
    takes = λ taken put is. record { after = taken; still = is; front = []; is_front = ([], refl); all = λ up. refl; took = sym (append-nil (taken from)); others = λ j other. refl };
    emptied = free;
    held = λ j other. refl;
    same = record { me = refl; first_up = refl };
    closing = record { closing = []; are = tt; entries = sym (append-nil s.course.entries) };
    stops = λ given h. h;
  }

  -- one more was taken of it, or it is down
  takes_more : (left : List Message) (m : Message) (e : StepEntry) (old mid new : Still S D) (taken put : ℕ → List Message) → m.from ≡ from → mid.course.me ≡ old.course.me → TakesFront keeps setup old.course.me from left taken put mid → ReceivesOne keeps shows setup m e mid new
      → TakesFront keeps setup old.course.me from (left ++ m ∷ []) taken put new
  takes_more left m e old mid new taken put theirs me h one =
      let is : IsStill keeps setup mid.course.me h.after put mid = subst (λ i. IsStill keeps setup i h.after put mid) (sym me) h.still in
      let next = one.own h.after put is in
      let still : IsStill keeps setup old.course.me next.0 put new = subst (λ i. IsStill keeps setup i next.0 put new) me next.1 in
      let running : Running = running_of mid.course in
      elim (up_or_down running) [
        | inl up ↦
            let all : h.front ≡ left = h.all up in
            record {
              after = next.0;
              still = still;
              front = left ++ m ∷ [];
              is_front = ([], sym (append-nil (left ++ m ∷ [])));
              all = λ yes. refl;
              took = next.2 from
                  ∙ ap (λ (r : Running). taking r m h.after from) up
                  ∙ taking_here m h.after from (sym theirs)
                  ∙ ap (λ (ms : List Message). ms ++ m ∷ []) (h.took ∙ ap (λ (ms : List Message). taken from ++ ms) all)
                  ∙ append_assoc (taken from) left (m ∷ []);
              others = λ j other.
                  next.2 j
                  ∙ ap (λ (r : Running). taking r m h.after j) up
                  ∙ taking_there m h.after j (λ same. other (same ∙ theirs))
                  ∙ h.others j other;
            }
        | inr down ↦ record {
          after = next.0;
          still = still;
          front = h.front;
          is_front = (h.is_front.0 ++ m ∷ [], ap (λ (ms : List Message). ms ++ m ∷ []) h.is_front.1 ∙ append_assoc h.front h.is_front.0 (m ∷ []));
          all = λ yes. absurd (one.down down yes);
          took = next.2 from ∙ taking_none running m h.after from down ∙ h.took;
          others = λ j other. next.2 j ∙ taking_none running m h.after j down ∙ h.others j other;
        }
      ]

  pub received_more : (left : List Message) (m : Message) (e : StepEntry) (old mid new : Still S D) → m.from ≡ from → HasReceived keeps shows setup from left old mid → ReceivesOne keeps shows setup m e mid new → HasReceived keeps shows setup from (left ++ m ∷ []) old new
  received_more left m e old mid new theirs h one = record {
    takes = λ taken put is. takes_more left m e old mid new taken put theirs h.same.me (h.takes taken put is) one;
    emptied = ap (λ (hs : List Heard). in_hand hs from) one.hands ∙ h.emptied;
    held = λ j other. ap (λ (hs : List Heard). in_hand hs j) one.hands ∙ h.held j other;
    same = record { me = one.same.me ∙ h.same.me; first_up = one.same.first_up ∙ h.same.first_up };
    closing = record {
      closing = h.closing.closing ++ e ∷ [];
      are = closing_more left h.closing.closing m e h.closing.are one.closing;
      entries = one.entries ∙ ap (λ (es : List StepEntry). es ++ e ∷ []) h.closing.entries ∙ append_assoc old.course.entries h.closing.closing (e ∷ []);
    };
    stops = λ given was. one.stops given (h.stops given was);
  }

  -- how many entries there are
  pub received_long : (left : List Message) (old now : Still S D) → HasReceived keeps shows setup from left old now → length now.course.entries ≡ length old.course.entries + length left
  received_long left old now h =
      omega (arith, ap length h.closing.entries, length-append old.course.entries h.closing.closing, closing_long left h.closing.closing h.closing.are)

  -- what the next call asks for
  pub received_own : (left : List Message) (old now : Still S D) → (taken put : ℕ → List Message) × IsStill keeps setup old.course.me taken put old → HasReceived keeps shows setup from left old now
      → (taken put : ℕ → List Message) × IsStill keeps setup now.course.me taken put now
  received_own left old now own h =
      let it = h.takes own.0 own.1 own.2 in
      (it.after, own.1, subst (λ i. IsStill keeps setup i it.after own.1 now) (sym h.same.me) it.still)

  pub received_peer : (left : List Message) (m : Message) (old now : Still S D) → m.from ≡ from → IsPeer setup old.course.me from → HasReceived keeps shows setup from left old now → IsPeer setup now.course.me m.from
  received_peer left m old now theirs peer h = subst (IsPeer setup now.course.me) (sym theirs) (subst (λ i. IsPeer setup i from) (sym h.same.me) peer)

  -- so it is after the call
  pub receives_one : (m : Message) (e : StepEntry) (old new : Still S D)
      → ((taken put : ℕ → List Message) → IsStill keeps setup old.course.me taken put old → (after : ℕ → List Message) × IsStill keeps setup old.course.me after put new × ((j : ℕ) → after j ≡ taking (running_of old.course) m taken j))
      → new.hands ≡ old.hands → IsOf old.course new.course × AddsEntry (asks.Take m.from None) e old.course new.course → IsClosing m e → (running_of old.course ≢ Up → running_of new.course ≢ Up) → Costs (shows old.storage) (shows new.storage) (IsBroken e.outcome)
      → ReceivesOne keeps shows setup m e old new
  receives_one m e old new own hands answers closing down costs = record {
    own = own;
    hands = hands;
    same = answers.0;
    entries = answers.1.entries;
    closing = closing;
    down = down;
    stops = λ given was. stops_more given (shows old.storage) (shows new.storage) old.course new.course e costs answers.1.entries answers.0.first_up was;
  }

  -- one more of those that were left
  pub received_step : (all yielded rest behind held : List Message) (m : Message) (e : StepEntry) (old mid new : Still S D) → AllByRecursion (λ x. x.from ≡ from) all → yielded ++ rest ≡ all → rest ≡ m ∷ behind
      → HasReceived keeps shows setup from (held ++ yielded) old mid → ReceivesOne keeps shows setup m e mid new → ((yielded ++ m ∷ []) ++ behind ≡ all) × HasReceived keeps shows setup from (held ++ (yielded ++ m ∷ [])) old new
  received_step all yielded rest behind held m e old mid new theirs is split h one = (
    next_behind all yielded rest behind m is split,
    subst (λ ms. HasReceived keeps shows setup from ms old new) (append_assoc held yielded (m ∷ []))
        (received_more (held ++ yielded) m e old mid new (next_of (λ x. x.from ≡ from) all yielded rest behind m theirs is split) h one),
  )
