-- A replica that takes what is in hand.
use Rattle.std.proofs.Common.{◌≡◌, ◌≢◌, inl, inr, ℕ, ◌+◌, ◌<◌, ◌≤◌, true, false, List, [], ◌∷◌, ◌++◌, length, refl, sym, ap, subst, ◌∙◌, arith, length-set, eq-eqb, ne_eqb}
use Rattle.std.specs.Prelude.{slice_get, slice_index_or, slice_set, IfOk, Option, Some, None, Result, Ok, Err, if◌then◌else◌}
use Rattle.std.proofs.lemmas.Bool.{cases_eq, cases_lt}
use Rattle.std.proofs.lemmas.List.{append-nil, append_cancel_right, get_or_past}
use Rattle.std.proofs.lemmas.Option.{same_Some, slice_get-get_or}
use Rattle.spec_model.specs.declared.plan.Setup.{Setup}
use Rattle.run_model.specs.declared.batch.Batch.{Batch}
use Rattle.run_model.specs.declared.message.Message.{Message}
use Rattle.run_model.specs.declared.step.Ask.{Ask}
use Rattle.run_model.specs.declared.step.Ask.TheVariants as asks
use Rattle.run_model.specs.declared.step.Outcome.{Outcome}
use Rattle.run_model.specs.declared.step.StepEntry.{StepEntry}
use Rattle.run_model.specs.Worlds.{Running, Up, Down, Sending}
use Rattle.local_runs.specs.Handed.{HandSteps, IsPeer, IsRefused, hand_from}
use Rattle.replica_course.specs.Courses.{IsCourse, local_of, running_of}
use Rattle.replica_course.specs.Steps.{HasInHand, IsCounted, sent_by}
use Rattle.replica_course.specs.declared.answer.Answer.{Answer}
use Rattle.replica_course.specs.declared.heard.Heard.{Heard}
use Rattle.replica_course.specs.declared.heard.Heard.TheVariants as heard
use Rattle.replica_node.specs.Ends.{with_one}
use Rattle.replica_node.specs.Nodes.{IsHand, IsHandFrom, IsStill, StaysStill, as_list, in_hand, message_in, number_in}
use Rattle.replica_node.specs.Steps.{CountsNone, CourseAdds, FindsNone, finds_none, taking}
use Rattle.replica_node.specs.declared.still.Still.{Still}
use Rattle.replica_node.proofs.Grown.{emptied, from_set, hand_at, still_steps}

-- ---- what is in hand

fits_up : (from : ℕ) (number : Option ℕ) (h : Heard) → IsHandFrom from h → number ≡ number_in h → HasInHand (asks.Take from number) Up h
fits_up from number heard.Nothing is named = named
fits_up from number (heard.Unsent stamp) is named = absurd is
fits_up from number (heard.Message m) is named = (is, named)

-- a take by the number of what is in hand
pub hand_fits : (running : Running) (from : ℕ) (number : Option ℕ) (h : Heard) → running ≡ Up → IsHandFrom from h → number ≡ number_in h → HasInHand (asks.Take from number) running h
hand_fits running from number h up is named = subst (λ (r : Running). HasInHand (asks.Take from number) r h) (sym up) (fits_up from number h is named)

-- the hand that was read
pub held_at : (hands items : List Heard) (from : ℕ) (h : Heard) → items ≡ hands → h ≡ slice_index_or items from h → from < length hands → slice_get hands from ≡ Some h
held_at hands items from h same is lt = slice_get-get_or hands from h lt ∙ ap Some (sym (is ∙ ap (λ (xs : List Heard). slice_index_or xs from h) same))

-- each other replica has a hand
pub peer_within : {S D : Type 0} (keeps : S → ℕ → List Batch → Running → Type 0) (setup : Setup) (me from : ℕ) (taken put : ℕ → List Message) (s : Still S D) → IsStill keeps setup me taken put s → IsPeer setup me from → from < length s.hands
peer_within keeps setup me from taken put s is peer = let at = peer.0 in let long = is.hands in omega (arith, at, long)

-- ---- takes

-- what was in hand was taken, and its hand emptied
pub took_held : {S D : Type 0} (keeps : S → ℕ → List Batch → Running → Type 0) (setup : Setup) (old new : Still S D) (from : ℕ) (number : Option ℕ) (h : Heard) (answer : Answer) → from < length old.hands → slice_get old.hands from ≡ Some h → IsCourse setup old.course.me new.course
    → keeps new.storage setup.replicas new.course.kept (running_of new.course) → CourseAdds (asks.Take from number) old.course answer new.course
    → ((sendings : List Sending) → IsCounted (asks.Take from number) sendings
    → HandSteps setup old.course.me (message_in h) (local_of setup.replicas sendings old.course) answer.entry (local_of setup.replicas (sendings ++ sent_by (asks.Take from number) answer.entry.stamp answer.sent) new.course))
    → new.hands ≡ slice_set old.hands from heard.Nothing → StaysStill keeps setup old.course.me old new
took_held keeps setup old new from number h answer lt there own kept adds steps hands taken put is =
    let at : h ≡ slice_index_or old.hands from heard.Nothing = same_Some h (slice_index_or old.hands from heard.Nothing) (sym there ∙ slice_get-get_or old.hands from heard.Nothing lt) in
    let more : ℕ → List Message = λ j. taken j ++ hand_from j (message_in h) in (
      more,
      still_steps keeps setup old new (asks.Take from number) h answer taken put more is own kept adds (λ sendings. steps sendings tt) (ap length hands ∙ length-set old.hands from heard.Nothing ∙ is.hands)
          (λ k x found. from_set old.hands from heard.Nothing is.from lt tt k x (ap (λ (hs : List Heard). slice_get hs k) (sym hands) ∙ found)) (λ j. refl),
      λ j.
          ap (λ (hs : List Heard). (taken j ++ hand_from j (message_in h)) ++ in_hand hs j) hands
          ∙ ap (λ (x : Heard). (taken j ++ hand_from j (message_in x)) ++ in_hand (slice_set old.hands from heard.Nothing) j) at
          ∙ emptied old.hands from taken lt (hand_at old.hands from is.from lt) j,
    )

one_taken : (m : Message) (taken : ℕ → List Message) (j : ℕ) → with_one m.from m taken j ≡ taken j ++ hand_from j (Some m)
one_taken m taken j = elim (cases_eq j m.from) [
  | inl same ↦
      ap (λ b. if b then taken j ++ m ∷ [] else taken j) (eq-eqb j m.from same)
      ∙ ap (λ (ms : List Message). taken j ++ ms) (sym (ap (λ b. if b then m ∷ [] else []) (eq-eqb m.from j (sym same))))
  | inr other ↦
      ap (λ b. if b then taken j ++ m ∷ [] else taken j) (ne_eqb j m.from other)
      ∙ sym (append-nil (taken j))
      ∙ ap (λ (ms : List Message). taken j ++ ms) (sym (ap (λ b. if b then m ∷ [] else []) (ne_eqb m.from j (λ same. other (sym same)))))
]

-- a message was taken at once
pub took_this : {S D : Type 0} (keeps : S → ℕ → List Batch → Running → Type 0) (setup : Setup) (old new : Still S D) (m : Message) (answer : Answer) → IsCourse setup old.course.me new.course → keeps new.storage setup.replicas new.course.kept (running_of new.course)
    → CourseAdds (asks.Take m.from (Some m.number)) old.course answer new.course
    → ((sendings : List Sending) → IsCounted (asks.Take m.from (Some m.number)) sendings
    → HandSteps setup old.course.me (Some m) (local_of setup.replicas sendings old.course) answer.entry (local_of setup.replicas (sendings ++ sent_by (asks.Take m.from (Some m.number)) answer.entry.stamp answer.sent) new.course))
    → new.hands ≡ old.hands → (taken put : ℕ → List Message) → IsStill keeps setup old.course.me taken put old → IsStill keeps setup old.course.me (taking Up m taken) put new
took_this keeps setup old new m answer own kept adds steps hands taken put is =
    still_steps keeps setup old new (asks.Take m.from (Some m.number)) (heard.Message m) answer taken put (with_one m.from m taken) is own kept adds (λ sendings. steps sendings tt) (ap length hands ∙ is.hands)
    (λ k x there. is.from k x (ap (λ (hs : List Heard). slice_get hs k) (sym hands) ∙ there)) (one_taken m taken)

-- a take isn't a send
pub take_unrefused : {E : Type 0} (from : ℕ) (number : Option ℕ) (result : Result StepEntry E) → IfOk result (λ entry. entry.ask ≡ asks.Take from number) → IfOk result (λ entry. (to : ℕ) → IsRefused to entry → ⊥)
take_unrefused from number (Ok e) asked = λ to refused. differ to (sym asked ∙ refused.asked)
  where
    differ : (to : ℕ) → asks.Take from number ≡ asks.Send to None → ⊥
    differ to is = cc
take_unrefused from number (Err e) asked = tt

-- ---- a replica that is down

down_same : (running : Running) (m : Message) (taken : ℕ → List Message) (from : ℕ) → (running ≡ Up → ⊥) → taking running m taken from ≡ taken from
down_same Up m taken from down = absurd (down refl)
down_same (Down pending) m taken from down = refl

-- ---- a message that is received

pub receives_up : {E : Type 0} {S D : Type 0} (keeps : S → ℕ → List Batch → Running → Type 0) (setup : Setup) (me : ℕ) (old new : Still S D) (m : Message) (running : Running) (result : Result StepEntry E) → running ≡ Up
    → IfOk result (λ entry. (taken put : ℕ → List Message) → IsStill keeps setup me taken put old → IsStill keeps setup me (taking Up m taken) put new)
    → IfOk result (λ entry. (taken put : ℕ → List Message) → IsStill keeps setup me taken put old → (after : ℕ → List Message) × IsStill keeps setup me after put new × ((from : ℕ) → after from ≡ taking running m taken from))
receives_up keeps setup me old new m running (Ok e) up it = λ taken put is. (taking Up m taken, it taken put is, λ from. ap (λ (r : Running). taking r m taken from) (sym up))
receives_up keeps setup me old new m running (Err e) up it = tt

-- one that is down takes nothing more
pub takes_nothing : {S D : Type 0} (keeps : S → ℕ → List Batch → Running → Type 0) (setup : Setup) (me : ℕ) (old new : Still S D) (taken put : ℕ → List Message) → StaysStill keeps setup me old new → new.hands ≡ old.hands → IsStill keeps setup me taken put old
    → (after : ℕ → List Message) × IsStill keeps setup me after put new × ((j : ℕ) → after j ≡ taken j)
takes_nothing keeps setup me old new taken put stays hands is =
    let after = stays taken put is in
    (after.0, after.1, λ j. append_cancel_right (after.0 j) (taken j) (in_hand old.hands j) (ap (λ (hs : List Heard). after.0 j ++ in_hand hs j) (sym hands) ∙ after.2 j))

pub receives_down : {E : Type 0} {S D : Type 0} (keeps : S → ℕ → List Batch → Running → Type 0) (setup : Setup) (me : ℕ) (old new : Still S D) (m : Message) (running : Running) (result : Result StepEntry E) → (running ≡ Up → ⊥) → StaysStill keeps setup me old new
    → new.hands ≡ old.hands
    → IfOk result (λ entry. (taken put : ℕ → List Message) → IsStill keeps setup me taken put old → (after : ℕ → List Message) × IsStill keeps setup me after put new × ((from : ℕ) → after from ≡ taking running m taken from))
receives_down keeps setup me old new m running (Ok e) down stays hands = λ taken put is.
    let after = takes_nothing keeps setup me old new taken put stays hands is in
    (after.0, after.1, λ from. after.2 from ∙ sym (down_same running m taken from down))
receives_down keeps setup me old new m running (Err e) down stays hands = tt

-- ---- no message was found

number_none : (from : ℕ) (h : Heard) → IsHandFrom from h → number_in h ≡ None → h ≡ heard.Nothing
number_none from heard.Nothing is none = refl
number_none from (heard.Unsent stamp) is none = absurd is
number_none from (heard.Message m) is none = absurd (never m.number none)
  where
    never : (n : ℕ) → Some n ≡ None → ⊥
    never n eq = cc

-- a take that found none had nothing in hand
pub takes_none : {E : Type 0} (from : ℕ) (hands : List Heard) (result : Result StepEntry E) (old new : ℕ) → ((k : ℕ) (x : Heard) → slice_get hands k ≡ Some x → IsHandFrom k x) → from < length hands
    → IfOk result (λ entry. entry.ask ≡ asks.Take from (number_in (slice_index_or hands from heard.Nothing))) → CountsNone (slice_index_or hands from heard.Nothing ≡ heard.Nothing) old new → CountsNone (FindsNone result) old new
takes_none from hands (Ok e) old new all lt asked counts = record {
  no_less = counts.no_less;
  rises = λ none. counts.rises (number_none from (slice_index_or hands from heard.Nothing) (hand_at hands from all lt) (numberless from (number_in (slice_index_or hands from heard.Nothing)) e.outcome (sym (ap (λ (a : Ask). finds_none a e.outcome) asked) ∙ none)));
}
  where
    numberless : (k : ℕ) (number : Option ℕ) (o : Outcome) → finds_none (asks.Take k number) o ≡ true → number ≡ None
    numberless k None o is = refl
    numberless k (Some n) o is = absurd (let wrong : false ≡ true = is in cc)
takes_none from hands (Err e) old new all lt asked counts = record { no_less = counts.no_less; rises = λ none. absurd none }

-- ---- no hand holds a message

pub free_more : (items : List Heard) (n : ℕ) (h : Heard) → ((from : ℕ) → from < n → slice_index_or items from heard.Nothing ≡ heard.Nothing) → h ≡ slice_index_or items n h → h ≡ heard.Nothing → (from : ℕ) → from < n + 1 → slice_index_or items from heard.Nothing ≡ heard.Nothing
free_more items n h before is none from lt = elim (cases_lt from n) [
  | inl less ↦ before from less
  | inr le ↦
      let same : from ≡ n = omega (arith, lt, le) in
      ap (λ i. slice_index_or items i heard.Nothing) same ∙ sym (subst (λ (x : Heard). x ≡ slice_index_or items n x) none is)
]

pub all_free : (hands items : List Heard) (n : ℕ) → items ≡ hands → length items ≤ n → ((from : ℕ) → from < n → slice_index_or items from heard.Nothing ≡ heard.Nothing) → (from : ℕ) → in_hand hands from ≡ []
all_free hands items n same le all from =
    ap (λ (x : Heard). as_list (message_in x)) (ap (λ (xs : List Heard). slice_index_or xs from heard.Nothing) (sym same) ∙ elim (cases_lt from n) [
      | inl less ↦ all from less
      | inr past ↦ get_or_past items from heard.Nothing (omega (arith, le, past))
    ])
