-- A replica that takes what was left for it, replica by replica.
use Rattle.std.proofs.Common.{◌≡◌, ◌≢◌, inl, inr, ℕ, zero, suc, ◌+◌, ◌<◌, ◌≤◌, List, [], ◌∷◌, ◌++◌, length, refl, sym, ap, subst, ◌∙◌, arith, eq-eqb, ne_eqb}
use Rattle.std.proofs.lemmas.Option.{slice_get_within}
use Rattle.std.specs.Prelude.{replicate, slice_get, slice_index_or, Some, None, if◌then◌else◌}
use Rattle.std.specs.List.{AllByRecursion}
use Rattle.std.proofs.lemmas.Bool.{cases_eq, cases_lt}
use Rattle.std.proofs.lemmas.List.{append-nil, append_assoc, length-append, length-map, map-append}
use Rattle.spec_model.specs.declared.plan.Setup.{Setup}
use Rattle.run_model.specs.declared.batch.Batch.{Batch}
use Rattle.run_model.specs.declared.message.Message.{Message}
use Rattle.run_model.specs.declared.step.Ask.{Ask}
use Rattle.run_model.specs.declared.step.Ask.TheVariants as asks
use Rattle.run_model.specs.declared.step.StepEntry.{StepEntry}
use Rattle.run_model.specs.Worlds.{Running}
use Rattle.batch_storage.specs.Shown.{Shown}
use Rattle.local_runs.specs.Alone.{IsFront}
use Rattle.local_runs.specs.Handed.{IsRefused}
use Rattle.replica_course.specs.declared.heard.Heard.{Heard}
use Rattle.replica_course.specs.declared.heard.Heard.TheVariants as heard
use Rattle.replica_node.specs.Closing.{AreClosing, HasReceived, IsClosing, TakesFront}
use Rattle.replica_node.specs.Nodes.{IsHandFrom, IsStill, as_list, in_hand, message_in}
use Rattle.replica_node.specs.Steps.{plain}
use Rattle.replica_node.specs.declared.still.Still.{Still}
use Rattle.replica_node.proofs.Grown.{hand_at}
use Rattle.client_runs.specs.Serving.{Found, IsNumbered, asked_in, takes_of}
use Rattle.request_workers.proofs.Handed.{next_there}
use Rattle.request_workers.specs.Taking.{CanTake, HasTaken, TakesFrom, TakesFronts, to_take}

-- ---- lists

pub both_all : {X : Type 0} (P : X → Type 0) (xs ys : List X) → AllByRecursion P xs → AllByRecursion P ys → AllByRecursion P (xs ++ ys)
both_all P [] ys of_xs of_ys = of_ys
both_all P (x ∷ xs) ys of_xs of_ys = (of_xs.0, both_all P xs ys of_xs.1 of_ys)

pub index_is : {X : Type 0} (xs : List X) (k : ℕ) (x none : X) → slice_get xs k ≡ Some x → slice_index_or xs k none ≡ x
index_is [] k x none is = absurd cc
index_is (y ∷ xs) zero x none is = cc
index_is (y ∷ xs) (suc k) x none is = index_is xs k x none is

-- what is next in a list of which so many were taken
pub at_next : {X : Type 0} (all front left behind : List X) (x : X) (k : ℕ) → k ≡ length front → front ++ left ≡ all → left ≡ x ∷ behind → slice_get all k ≡ Some x
at_next all front left behind x k at is split = subst (λ i. slice_get all i ≡ Some x) (sym at) (next_there all front left behind x is split)

-- ---- the takes of one replica's messages

many_replicate : {X : Type 0} (n : ℕ) (x : X) → length (replicate n x) ≡ n
many_replicate zero x = refl
many_replicate (suc n) x = omega (arith, many_replicate n x)

take_asked : (from : ℕ) (m : Message) (e : StepEntry) → m.from ≡ from → IsClosing m e → plain e.ask ≡ asks.Take from None
take_asked from m e theirs (inl asked) = ap plain asked ∙ ap (λ k. asks.Take k None) theirs
take_asked from m e theirs (inr down) = ap plain down.0 ∙ ap (λ k. asks.Take k None) theirs

take_found : (m : Message) (e : StepEntry) → IsClosing m e → Found e
take_found m e (inl asked) = inl (subst IsNumbered (sym asked) tt)
take_found m e (inr down) = inr down.1

take_unrefused : (m : Message) (e : StepEntry) → IsClosing m e → (to : ℕ) → IsRefused to e → ⊥
take_unrefused m e (inl asked) to refused = differ (sym asked ∙ refused.asked)
  where
    differ : asks.Take m.from (Some m.number) ≡ asks.Send to None → ⊥
    differ is = cc
take_unrefused m e (inr down) to refused = differ (sym down.0 ∙ refused.asked)
  where
    differ : asks.Take m.from None ≡ asks.Send to None → ⊥
    differ is = cc

closing_asked : (from : ℕ) (left : List Message) (es : List StepEntry) → AllByRecursion (λ m. m.from ≡ from) left → AreClosing left es → asked_in es ≡ replicate (length left) (asks.Take from None)
closing_asked from [] [] theirs are = refl
closing_asked from [] (e ∷ es) theirs are = absurd are
closing_asked from (m ∷ left) [] theirs are = absurd are
closing_asked from (m ∷ left) (e ∷ es) theirs are =
    ap (λ (ask : Ask). ask ∷ asked_in es) (take_asked from m e theirs.0 are.0)
    ∙ ap (λ (rest : List Ask). asks.Take from None ∷ rest) (closing_asked from left es theirs.1 are.1)

closing_all : (P : StepEntry → Type 0) → ((m : Message) (e : StepEntry) → IsClosing m e → P e) → (left : List Message) (es : List StepEntry) → AreClosing left es → AllByRecursion P es
closing_all P each [] [] are = tt
closing_all P each [] (e ∷ es) are = absurd are
closing_all P each (m ∷ left) [] are = absurd are
closing_all P each (m ∷ left) (e ∷ es) are = (each m e are.0, closing_all P each left es are.1)

-- what is in hand of a replica is from it
hand_theirs : (from : ℕ) (h : Heard) → IsHandFrom from h → AllByRecursion (λ m. m.from ≡ from) (as_list (message_in h))
hand_theirs from heard.Nothing is = tt
hand_theirs from (heard.Unsent stamp) is = absurd is
hand_theirs from (heard.Message m) is = (is, tt)

-- ---- how many takes there are

pub takes_here : (many : ℕ → ℕ) (me n : ℕ) → n ≡ me → takes_of many me (suc n) ≡ takes_of many me n
takes_here many me n same = ap (λ b. takes_of many me n ++ (if b then [] else replicate (many n) (asks.Take n None))) (eq-eqb n me same) ∙ append-nil (takes_of many me n)

pub takes_there : (many : ℕ → ℕ) (me n : ℕ) → n ≢ me → takes_of many me (suc n) ≡ takes_of many me n ++ replicate (many n) (asks.Take n None)
takes_there many me n other = ap (λ b. takes_of many me n ++ (if b then [] else replicate (many n) (asks.Take n None))) (ne_eqb n me other)

takes_more : (many : ℕ → ℕ) (me n : ℕ) → length (takes_of many me n) ≤ length (takes_of many me (suc n))
takes_more many me n = elim (cases_eq n me) [
  | inl same ↦ omega (arith, ap length (takes_here many me n same))
  | inr other ↦ omega (arith, ap length (takes_there many me n other), length-append (takes_of many me n) (replicate (many n) (asks.Take n None)))
]

takes_within : (many : ℕ → ℕ) (me n all : ℕ) → n < all → n ≢ me → length (takes_of many me n) + many n ≤ length (takes_of many me all)
takes_within many me n zero lt other = absurd (omega (arith, lt))
takes_within many me n (suc all) lt other = elim (cases_eq n all) [
  | inl same ↦ subst (λ k. length (takes_of many me n) + many n ≤ length (takes_of many me (suc k))) same
      (omega (arith, ap length (takes_there many me n other), length-append (takes_of many me n) (replicate (many n) (asks.Take n None)), many_replicate (many n) (asks.Take n None)))
  | inr before ↦ omega (arith, takes_within many me n all (omega (arith, lt, before)) other, takes_more many me all)
]

-- ---- replica by replica

module _ {S D : Type 0} (keeps : S → ℕ → List Batch → Running → Type 0) (shows : S → Shown) (setup : Setup) (me : ℕ) (lists : List (List Message)) where
  -- all that there is to take of a replica is from it
  pub all_theirs : (from : ℕ) (left : List Message) (s : Still S D) (taken put : ℕ → List Message) → IsStill keeps setup me taken put s → from < setup.replicas → AllByRecursion (λ m. m.from ≡ from) left
      → AllByRecursion (λ m. m.from ≡ from) (in_hand s.hands from ++ left)
  all_theirs from left s taken put own lt theirs =
      both_all (λ m. m.from ≡ from) (in_hand s.hands from) left (hand_theirs from (slice_index_or s.hands from heard.Nothing) (hand_at s.hands from own.from (omega (arith, lt, own.hands)))) theirs

  pub none_taken : (s : Still S D) → HasTaken keeps shows setup me 0 lists s s
  none_taken s = record {
    takes = λ taken put own. record { after = taken; still = own; fronts = λ j lt. absurd (omega (arith, lt)); others = λ j le. refl };
    held = λ j le. refl;
    same = record { me = refl; first_up = refl };
    closing = record { closing = []; entries = sym (append-nil s.course.entries); asked = refl; found = tt; unrefused = tt };
    stops = λ given h. h;
  }

  -- of itself a replica takes nothing
  skipped : (n : ℕ) (old now : Still S D) → n ≡ me → HasTaken keeps shows setup me n lists old now → HasTaken keeps shows setup me (suc n) lists old now
  skipped n old now same h = record {
    takes = λ taken put own.
        let t = h.takes taken put own in
        record {
          after = t.after;
          still = t.still;
          fronts = λ j lt other. elim (cases_lt j n) [
            | inl before ↦ t.fronts j before other
            | inr le ↦ absurd (other (omega (arith, lt, le, same)))
          ];
          others = λ j le. t.others j (omega (arith, le));
        };
    held = λ j le. h.held j (omega (arith, le));
    same = h.same;
    closing = record {
      closing = h.closing.closing;
      entries = h.closing.entries;
      asked = h.closing.asked ∙ sym (takes_here (λ peer. length (to_take old lists peer)) me n same);
      found = h.closing.found;
      unrefused = h.closing.unrefused;
    };
    stops = h.stops;
  }

  -- what it took of the next replica
  fronts_more : (n : ℕ) (left : List Message) (old mid now : Still S D) (taken put : ℕ → List Message) → n ≢ me → slice_index_or lists n [] ≡ left → in_hand mid.hands n ≡ in_hand old.hands n
      → TakesFronts keeps setup me n (to_take old lists) taken put mid → HasReceived keeps shows setup n (in_hand mid.hands n ++ left) mid now → TakesFronts keeps setup me (suc n) (to_take old lists) taken put now
  fronts_more n left old mid now taken put other here held t one =
      let me_is : mid.course.me ≡ me = t.still.own.me_is in
      let all : List Message = in_hand mid.hands n ++ left in
      let own : IsStill keeps setup mid.course.me t.after put mid = subst (λ k. IsStill keeps setup k t.after put mid) (sym me_is) t.still in
      let next : TakesFront keeps setup me n all t.after put now = subst (λ k. TakesFront keeps setup k n all t.after put now) me_is (one.takes t.after put own) in
      let all_is : all ≡ to_take old lists n = ap (λ (ms : List Message). ms ++ left) held ∙ ap (λ (ms : List Message). in_hand old.hands n ++ ms) (sym here) in
      record {
        after = next.after;
        still = next.still;
        fronts = λ j lt apart. elim (cases_eq j n) [
          | inl same ↦ subst (λ (k : ℕ). (front : List Message) × IsFront front (to_take old lists k) × (next.after k ≡ taken k ++ front)) (sym same)
              (next.front, subst (IsFront next.front) all_is next.is_front, next.took ∙ ap (λ (ms : List Message). ms ++ next.front) (t.others n (omega arith)))
          | inr before ↦
              let f = t.fronts j (omega (arith, lt, before)) apart in
              (f.0, f.1, next.others j before ∙ f.2)
        ];
        others = λ j le. next.others j (λ same. omega (arith, le, same)) ∙ t.others j (omega (arith, le));
      }

  taken_next : (n : ℕ) (left : List Message) (old mid now : Still S D) → n ≢ me → slice_index_or lists n [] ≡ left → AllByRecursion (λ m. m.from ≡ n) (in_hand mid.hands n ++ left)
      → HasTaken keeps shows setup me n lists old mid → HasReceived keeps shows setup n (in_hand mid.hands n ++ left) mid now → HasTaken keeps shows setup me (suc n) lists old now
  taken_next n left old mid now other here theirs h one =
      let held : in_hand mid.hands n ≡ in_hand old.hands n = h.held n (omega arith) in
      let all : List Message = in_hand mid.hands n ++ left in
      let all_is : all ≡ to_take old lists n = ap (λ (ms : List Message). ms ++ left) held ∙ ap (λ (ms : List Message). in_hand old.hands n ++ ms) (sym here) in
      let many : ℕ → ℕ = λ peer. length (to_take old lists peer) in
      record {
        takes = λ taken put own. fronts_more n left old mid now taken put other here held (h.takes taken put own) one;
        held = λ j le. one.held j (λ same. omega (arith, le, same)) ∙ h.held j (omega (arith, le));
        same = record { me = one.same.me ∙ h.same.me; first_up = one.same.first_up ∙ h.same.first_up };
        closing = record {
          closing = h.closing.closing ++ one.closing.closing;
          entries = one.closing.entries ∙ ap (λ (es : List StepEntry). es ++ one.closing.closing) h.closing.entries ∙ append_assoc old.course.entries h.closing.closing one.closing.closing;
          asked = map-append (λ (e : StepEntry). plain e.ask) h.closing.closing one.closing.closing
              ∙ ap (λ (front : List Ask). front ++ asked_in one.closing.closing) h.closing.asked
              ∙ ap (λ (behind : List Ask). takes_of many me n ++ behind) (closing_asked n all one.closing.closing theirs one.closing.are ∙ ap (λ (ms : List Message). replicate (length ms) (asks.Take n None)) all_is)
              ∙ sym (takes_there many me n other);
          found = both_all Found h.closing.closing one.closing.closing h.closing.found (closing_all Found take_found all one.closing.closing one.closing.are);
          unrefused = both_all (λ e. (to : ℕ) → IsRefused to e → ⊥) h.closing.closing one.closing.closing h.closing.unrefused (closing_all (λ e. (to : ℕ) → IsRefused to e → ⊥) take_unrefused all one.closing.closing one.closing.are);
        };
        stops = λ given has. one.stops given (h.stops given has);
      }

  -- what it has to know to take what the next replica left
  pub record IsReadyFor (n : ℕ) (left : List Message) (now : Still S D) : Type 0 where
    pub place : now.course.me ≡ me
    pub own : (taken put : ℕ → List Message) × IsStill keeps setup me taken put now
    pub within : n < setup.replicas
    pub theirs : AllByRecursion (λ m. m.from ≡ n) left
    pub room : n ≢ me → length now.course.entries + length (in_hand now.hands n ++ left) ≤ 100000

  pub ready_next : (n : ℕ) (left : List Message) (old now : Still S D) → CanTake keeps setup me lists old → HasTaken keeps shows setup me n lists old now → slice_get lists n ≡ Some left → IsReadyFor n left now
  ready_next n left old now can h at =
      let t = h.takes can.taken can.put can.own in
      let lt : n < setup.replicas = omega (arith, slice_get_within lists n left at, can.whole) in
      let many : ℕ → ℕ = λ peer. length (to_take old lists peer) in
      let here : slice_index_or lists n [] ≡ left = index_is lists n left [] at in
      let held : in_hand now.hands n ≡ in_hand old.hands n = h.held n (omega arith) in
      let much : length (in_hand now.hands n ++ left) ≡ many n = ap (λ (ms : List Message). length (ms ++ left)) held ∙ ap (λ (ms : List Message). length (in_hand old.hands n ++ ms)) (sym here) in
      let taken_long : length h.closing.closing ≡ length (takes_of many me n) = sym (length-map h.closing.closing (λ (e : StepEntry). plain e.ask)) ∙ ap length h.closing.asked in
      let long : length now.course.entries ≡ length old.course.entries + length (takes_of many me n) = ap length h.closing.entries ∙ length-append old.course.entries h.closing.closing ∙ ap (λ k. length old.course.entries + k) taken_long in
      record {
        place = t.still.own.me_is;
        own = (t.after, can.put, t.still);
        within = lt;
        theirs = can.theirs n left at;
        room = λ other. omega (arith, takes_within many me n setup.replicas lt other, long, much, can.room);
      }

  pub takes_next : (n : ℕ) (left : List Message) (old mid now : Still S D) → CanTake keeps setup me lists old → HasTaken keeps shows setup me n lists old mid → slice_get lists n ≡ Some left → TakesFrom keeps shows setup me n left mid now
      → HasTaken keeps shows setup me (n + 1) lists old now
  takes_next n left old mid now can h at one =
      let next : suc n ≡ n + 1 = omega arith in
      subst (λ k. HasTaken keeps shows setup me k lists old now) next (elim (cases_eq n me) [
        | inl same ↦ subst (λ s. HasTaken keeps shows setup me (suc n) lists old s) (sym (one.itself same)) (skipped n old mid same h)
        | inr other ↦
            let ready = ready_next n left old mid can h at in
            taken_next n left old mid now other (index_is lists n left [] at) (all_theirs n left mid ready.own.0 ready.own.1 ready.own.2 ready.within ready.theirs) h (one.other other)
      ])
