-- A replica by itself that has taken one step more.
use Rattle.std.proofs.Common.{◌≡◌, ◌≢◌, inl, inr, ℕ, ◌<◌, Bool, List, [], ◌∷◌, ◌++◌, length, map, refl, sym, ap, subst, ◌∙◌, arith, length-set, eq-eqb, ne_eqb}
use Rattle.std.specs.Prelude.{slice_get, slice_index_or, slice_set, Option, Some, None, if◌then◌else◌}
use Rattle.std.proofs.lemmas.Bool.{cases_eq}
use Rattle.std.proofs.lemmas.List.{append-nil, append_assoc, map-append, get_or-set_same, get_or-set_other}
use Rattle.std.proofs.lemmas.List.Concat.{flat_map-append}
use Rattle.std.proofs.lemmas.Option.{same_Some, slice_get-get_or}
use Rattle.spec_model.specs.declared.plan.Setup.{Setup}
use Rattle.run_model.specs.declared.batch.Batch.{Batch}
use Rattle.run_model.specs.declared.message.Message.{Message}
use Rattle.run_model.specs.declared.step.Ask.{Ask}
use Rattle.run_model.specs.declared.step.Ask.TheVariants as asks
use Rattle.run_model.specs.declared.step.StepEntry.{StepEntry}
use Rattle.run_model.specs.Locals.{Local, first_local}
use Rattle.run_model.specs.Worlds.{Running, Sending, sent_to}
use Rattle.run_model.proofs.Lists.{get_set_same, get_set_other}
use Rattle.local_runs.specs.Alone.{RunsAlone}
use Rattle.local_runs.specs.Handed.{Handed, HandRuns, HandSteps, hand_from, sending_of, taken_from}
use Rattle.replica_course.specs.Courses.{IsAsBefore, IsCourse, local_of, running_of}
use Rattle.replica_course.specs.Steps.{IsCounted, sent_by}
use Rattle.replica_course.specs.declared.answer.Answer.{Answer}
use Rattle.replica_course.specs.declared.course.Course.{Course}
use Rattle.replica_course.specs.declared.heard.Heard.{Heard}
use Rattle.replica_course.specs.declared.heard.Heard.TheVariants as heard
use Rattle.replica_node.specs.Nodes.{IsHand, IsHandFrom, IsStill, as_list, in_hand, message_in}
use Rattle.replica_node.specs.Steps.{CourseAdds}
use Rattle.replica_node.specs.declared.still.Still.{Still}

hand_more : (setup : Setup) (me : ℕ) (old last next : Local) (steps : List Handed) (s : Handed) → HandRuns setup me old steps last → HandSteps setup me s.hand last s.entry next → HandRuns setup me old (steps ++ s ∷ []) next
hand_more setup me old last next [] s runs step = (next, subst (λ (l : Local). HandSteps setup me s.hand l s.entry next) runs step, refl)
hand_more setup me old last next (t ∷ steps) s runs step = (runs.0, runs.1, hand_more setup me runs.0 last next steps s runs.2 step)

-- it has one step more
pub alone_more : (setup : Setup) (me : ℕ) (up : Bool) (taken put more_taken more_put : ℕ → List Message) (es : List StepEntry) (last next : Local) (s : Handed) → RunsAlone setup me up taken put es last → HandSteps setup me s.hand last s.entry next
    → ((from : ℕ) → more_taken from ≡ taken from ++ hand_from from s.hand) → ((to : ℕ) → sent_to to next.standing.sendings ≡ map sending_of (more_put to)) → RunsAlone setup me up more_taken more_put (es ++ s.entry ∷ []) next
alone_more setup me up taken put more_taken more_put es last next s h step took sent = record {
  steps = h.steps ++ s ∷ [];
  are = map-append (λ (x : Handed). x.entry) h.steps (s ∷ []) ∙ ap (λ (xs : List StepEntry). xs ++ s.entry ∷ []) h.are;
  runs = hand_more setup me (first_local setup.replicas up) last next h.steps s h.runs step;
  took = λ from.
      flat_map-append (λ (x : Handed). hand_from from x.hand) h.steps (s ∷ [])
      ∙ ap (λ (ms : List Message). ms ++ taken_from from (s ∷ [])) (h.took from)
      ∙ ap (λ (ms : List Message). taken from ++ ms) (append-nil (hand_from from s.hand))
      ∙ sym (took from);
  sent = sent;
}

-- a step that puts nothing
pub still_steps : {S D : Type 0} (keeps : S → ℕ → List Batch → Running → Type 0) (setup : Setup) (old new : Still S D) (ask : Ask) (h : Heard) (answer : Answer) (taken put more : ℕ → List Message) → IsStill keeps setup old.course.me taken put old → IsCourse setup old.course.me new.course
    → keeps new.storage setup.replicas new.course.kept (running_of new.course) → CourseAdds ask old.course answer new.course
    → ((sendings : List Sending) → HandSteps setup old.course.me (message_in h) (local_of setup.replicas sendings old.course) answer.entry (local_of setup.replicas (sendings ++ []) new.course))
    → length new.hands ≡ setup.replicas → ((k : ℕ) (x : Heard) → slice_get new.hands k ≡ Some x → IsHandFrom k x) → ((from : ℕ) → more from ≡ taken from ++ hand_from from (message_in h)) → IsStill keeps setup old.course.me more put new
still_steps keeps setup old new ask h answer taken put more is own kept adds steps long from took =
    let me : ℕ = old.course.me in
    let last : Local = local_of setup.replicas is.sendings old.course in
    let next : Local = local_of setup.replicas is.sendings new.course in
    let s : Handed = record { entry = answer.entry; hand = message_in h } in
    let step : HandSteps setup me (message_in h) last answer.entry next =
    subst (λ (xs : List Sending). HandSteps setup me (message_in h) last answer.entry (local_of setup.replicas xs new.course)) (append-nil is.sendings) (steps is.sendings) in
    let alone : RunsAlone setup me old.course.first_up more put (old.course.entries ++ answer.entry ∷ []) next =
    alone_more setup me old.course.first_up taken put more put old.course.entries last next s is.alone step took is.alone.sent in
    record {
      own = own;
      kept = kept;
      sendings = is.sendings;
      alone = subst (λ (es : List StepEntry). RunsAlone setup me new.course.first_up more put es next) (sym adds.entries)
          (subst (λ b. RunsAlone setup me b more put (old.course.entries ++ answer.entry ∷ []) next) (sym adds.same.first_up) alone);
      hands = long;
      from = from;
    }

-- it is as before, but for room
pub still_same : {S D : Type 0} (keeps : S → ℕ → List Batch → Running → Type 0) (setup : Setup) (old new : Still S D) (taken put : ℕ → List Message) → IsStill keeps setup old.course.me taken put old → IsCourse setup old.course.me new.course
    → keeps new.storage setup.replicas new.course.kept (running_of new.course) → IsAsBefore old.course new.course → new.hands ≡ old.hands → IsStill keeps setup old.course.me taken put new
still_same keeps setup old new taken put is own kept same hands =
    let me : ℕ = old.course.me in
    record {
      own = own;
      kept = kept;
      sendings = is.sendings;
      alone = subst (λ (es : List StepEntry). RunsAlone setup me new.course.first_up taken put es (local_of setup.replicas is.sendings new.course)) (sym same.entries)
          (subst (λ b. RunsAlone setup me b taken put old.course.entries (local_of setup.replicas is.sendings new.course)) (sym same.first_up)
          (subst (λ (l : Local). RunsAlone setup me old.course.first_up taken put old.course.entries l) (sym (same.stands setup.replicas is.sendings)) is.alone));
      hands = ap length hands ∙ is.hands;
      from = λ k x there. is.from k x (ap (λ (hs : List Heard). slice_get hs k) (sym hands) ∙ there);
    }

-- ---- hands

-- what is taken of a hand stands behind what was taken
hand_taken : (from j : ℕ) (h : Heard) → IsHandFrom from h → (j ≡ from → hand_from j (message_in h) ≡ as_list (message_in h)) × (j ≢ from → hand_from j (message_in h) ≡ [])
hand_taken from j heard.Nothing is = ((λ same. refl), λ other. refl)
hand_taken from j (heard.Unsent stamp) is = absurd is
hand_taken from j (heard.Message m) is = (
  (λ same. ap (λ b. if b then m ∷ [] else []) (eq-eqb m.from j (is ∙ sym same))),
  λ other. ap (λ b. if b then m ∷ [] else []) (ne_eqb m.from j (λ same. other (sym same ∙ is))),
)

-- a hand that is emptied
pub emptied : (hands : List Heard) (from : ℕ) (taken : ℕ → List Message) → from < length hands → IsHandFrom from (slice_index_or hands from heard.Nothing)
    → (j : ℕ) → (taken j ++ hand_from j (message_in (slice_index_or hands from heard.Nothing))) ++ in_hand (slice_set hands from heard.Nothing) j ≡ taken j ++ in_hand hands j
emptied hands from taken lt is j =
    let h : Heard = slice_index_or hands from heard.Nothing in
    let both = hand_taken from j h is in
    elim (cases_eq j from) [
      | inl same ↦
          ap (λ (ms : List Message). (taken j ++ hand_from j (message_in h)) ++ ms) (ap (in_hand (slice_set hands from heard.Nothing)) same ∙ ap (λ (x : Heard). as_list (message_in x)) (get_or-set_same hands from heard.Nothing heard.Nothing lt))
          ∙ append-nil (taken j ++ hand_from j (message_in h))
          ∙ ap (λ (ms : List Message). taken j ++ ms) (both.0 same ∙ sym (ap (in_hand hands) same))
      | inr other ↦
          ap (λ (ms : List Message). (taken j ++ hand_from j (message_in h)) ++ ms) (ap (λ (x : Heard). as_list (message_in x)) (get_or-set_other hands from j heard.Nothing heard.Nothing other))
          ∙ ap (λ (ms : List Message). (taken j ++ ms) ++ in_hand hands j) (both.1 other)
          ∙ ap (λ (ms : List Message). ms ++ in_hand hands j) (append-nil (taken j))
    ]

-- each hand is from its peer still
pub from_set : (hands : List Heard) (from : ℕ) (h : Heard) → ((k : ℕ) (x : Heard) → slice_get hands k ≡ Some x → IsHandFrom k x) → from < length hands → IsHandFrom from h → (k : ℕ) (x : Heard) → slice_get (slice_set hands from h) k ≡ Some x → IsHandFrom k x
from_set hands from h all lt is k x there = elim (cases_eq k from) [
  | inl same ↦
      let it : h ≡ x = same_Some h x (sym (get_set_same hands from h lt) ∙ ap (slice_get (slice_set hands from h)) (sym same) ∙ there) in
      subst (λ i. IsHandFrom i x) (sym same) (subst (IsHandFrom from) it is)
  | inr other ↦ all k x (get_set_other hands from k h x other there)
]

-- the hand at a place
pub hand_at : (hands : List Heard) (from : ℕ) → ((k : ℕ) (x : Heard) → slice_get hands k ≡ Some x → IsHandFrom k x) → from < length hands → IsHandFrom from (slice_index_or hands from heard.Nothing)
hand_at hands from all lt = all from (slice_index_or hands from heard.Nothing) (slice_get-get_or hands from heard.Nothing lt)

pub is_hand : (from : ℕ) (h : Heard) → IsHandFrom from h → IsHand h
is_hand from heard.Nothing is = tt
is_hand from (heard.Unsent stamp) is = absurd is
is_hand from (heard.Message m) is = tt
