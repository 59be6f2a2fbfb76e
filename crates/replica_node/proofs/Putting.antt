-- A node after the message of a send was put, or its link was full.
use Rattle.std.proofs.Common.{◌≡◌, ◌≢◌, ◌⊎◌, inl, inr, ℕ, zero, suc, ◌+◌, ◌<◌, ◌≤◌, eqb, Bool, true, false, List, [], ◌∷◌, ◌++◌, length, map, refl, sym, ap, subst, ◌∙◌, arith, length-set, eq-eqb, ne_eqb}
use Rattle.std.specs.Prelude.{slice_get, slice_set, Option, Some, None, if◌then◌else◌}
use Rattle.std.proofs.lemmas.Bool.{cases_eq}
use Rattle.std.proofs.lemmas.List.{append-nil, length-append, length-map, map-append}
use Rattle.std.proofs.lemmas.List.Elements.{filter-append}
use Rattle.std.proofs.lemmas.Option.{slice_get_within}
use Rattle.spec_model.specs.declared.plan.Setup.{Setup}
use Rattle.run_model.specs.declared.batch.Batch.{Batch}
use Rattle.run_model.specs.declared.message.Message.{Message}
use Rattle.run_model.specs.declared.step.Ask.{Ask}
use Rattle.run_model.specs.declared.step.Ask.TheVariants as asks
use Rattle.run_model.specs.declared.step.Outcome.TheVariants as outcomes
use Rattle.run_model.specs.declared.step.StepEntry.{StepEntry}
use Rattle.run_model.specs.Locals.{Local, LocalSteps}
use Rattle.run_model.specs.Steps.{next_stamp}
use Rattle.run_model.specs.Worlds.{Running, Up, Sending, sent_to}
use Rattle.run_model.proofs.Lists.{get_set_same}
use Rattle.local_runs.specs.Alone.{RunsAlone}
use Rattle.local_runs.specs.Handed.{AskFits, FindsFull, Handed, HandSteps, IsInHand, IsPeer, IsRefused, Puts, sending_of}
use Rattle.replica_course.specs.Courses.{IsCourse, local_of, running_of}
use Rattle.replica_course.specs.Parts.{entry_of}
use Rattle.replica_course.specs.Steps.{SentFits, sent_by}
use Rattle.replica_course.specs.declared.answer.Answer.{Answer}
use Rattle.replica_course.specs.declared.course.Course.{Course}
use Rattle.replica_node.specs.Ends.{AddsOne, AreSame}
use Rattle.replica_node.specs.Nodes.{IsNode, IsSending, IsStill, asks_send, sends_to}
use Rattle.replica_node.specs.Steps.{AddsEntry, IsOf, plain}
use Rattle.replica_node.specs.declared.node.Node.{Node}
use Rattle.replica_node.specs.declared.still.Still.{Still}
use Rattle.replica_node.proofs.Grown.{alone_more}
use Rattle.replica_node.proofs.Stepped.{send_leaves}
use Rattle.replica_node.proofs.Noded.{KeepsRoom, SendsGrow, room_more, sends_grow, sends_more, sends_one_more}

get_other : {X : Type 0} (xs : List X) (i j : ℕ) (x : X) → j ≢ i → slice_get (slice_set xs i x) j ≡ slice_get xs j
get_other [] i j x ne = refl
get_other (y ∷ xs) zero zero x ne = absurd (ne refl)
get_other (y ∷ xs) zero (suc j) x ne = refl
get_other (y ∷ xs) (suc i) zero x ne = refl
get_other (y ∷ xs) (suc i) (suc j) x ne = get_other xs i j x (λ is. ne (ap suc is))

numbered_differs : (to t number : ℕ) → asks.Send to (Some number) ≡ asks.Send t None → ⊥
numbered_differs to t number is = cc

same_peer : (to t : ℕ) → asks.Send to None ≡ asks.Send t None → to ≡ t
same_peer to t is = cc

asks_same : (to : ℕ) (number : Option ℕ) → asks_send to (asks.Send to number) ≡ true
asks_same to number = eq-eqb to to refl

hand_none : (ask : Ask) (running : Running) (to : ℕ) → ask ≡ asks.Send to None → IsInHand ask running None
hand_none ask running to is = subst (λ (a : Ask). IsInHand a running None) (sym is) refl

puts_none : (me : ℕ) (ask : Ask) (stamp to : ℕ) (before : List Sending) → ask ≡ asks.Send to None → Puts me ask stamp before []
puts_none me ask stamp to before is = subst (λ (a : Ask). Puts me a stamp before []) (sym is) refl

-- the course whose last entry says that the link was full
abbrev pub full_course : Course → Course → StepEntry → Course
full_course old now e = record now { entries = old.entries ++ e ∷ [] }

full_own : (setup : Setup) (me : ℕ) (old now : Course) (was e : StepEntry) → IsCourse setup me now → now.entries ≡ old.entries ++ was ∷ [] → IsCourse setup me (full_course old now e)
full_own setup me old now was e own entries = record {
  me_is = own.me_is;
  within = own.within;
  few = own.few;
  fits = own.fits;
  committed = own.committed;
  few_kept = let le = own.few_kept in omega (arith, le, ap length entries, length-append old.entries (was ∷ []), length-append old.entries (e ∷ []));
  state = own.state;
}

-- it stands as before the send, but for its stamp
full_leaves : (setup : Setup) (to number : ℕ) (before after : List Sending) (old now : Course) (e : StepEntry) → LocalSteps setup old.me None (local_of setup.replicas before old) e (local_of setup.replicas after now) ⊎ FindsFull e (local_of setup.replicas before old) (local_of setup.replicas after now)
    → running_of old ≡ Up → e.ask ≡ asks.Send to (Some number) → now.me ≡ old.me
    → local_of setup.replicas before now ≡ record (local_of setup.replicas before old) { standing = record (local_of setup.replicas before old).standing { stamp = e.stamp } }
full_leaves setup to number before after old now e step up asked me = elim step [
  | inl local ↦ send_leaves setup to number before after old now e local up asked me
  | inr full ↦ absurd (numbered_differs to full.to number (sym asked ∙ full.refused.asked))
]

module _ {S E D M : Type 0} (keeps : S → ℕ → List Batch → Running → Type 0) (mark : E → M) (owner : M → ℕ) (reaches : M → ℕ → Type 0) (room : M → ℕ → ℕ) (puts gots : E → ℕ → List Message) (setup : Setup) where
  -- the number is that of those sent before
  pub sent_before : (to number : ℕ) (answer : Answer) (old now : Node S E D M) → (h : IsSending keeps mark owner reaches room puts gots setup to number answer old now) → number ≡ length (sent_to to h.was.still.sendings)
  sent_before to number answer old now h = h.counted ∙ sym (length-map (puts old.ends to) sending_of) ∙ sym (ap length (h.was.still.alone.sent to))

  -- what was sent is the message
  pub sent_is : (to number : ℕ) (answer : Answer) (old now : Node S E D M) (m : Message) → IsSending keeps mark owner reaches room puts gots setup to number answer old now → answer.sent ≡ Some m
      → (m.to ≡ to) × (sent_by (asks.Send to (Some number)) answer.entry.stamp answer.sent ≡ sending_of m ∷ [])
  sent_is to number answer old now m h is =
      let fits : SentFits setup old.still.course.me (asks.Send to (Some number)) answer.entry.stamp (Some m) = subst (SentFits setup old.still.course.me (asks.Send to (Some number)) answer.entry.stamp) is h.fits in (
        fits.2,
        ap (λ (x : Option Message). let s : Sending = record { to = to; stamp = answer.entry.stamp; message = x } in s ∷ []) is
            ∙ ap (λ i. let s : Sending = record { to = i; stamp = answer.entry.stamp; message = Some m } in s ∷ []) (sym fits.2)
            ∙ ap (λ i. let s : Sending = record { to = m.to; stamp = i; message = Some m } in s ∷ []) (sym fits.3),
      )

  -- the message was put
  pub has_put : (to number : ℕ) (answer : Answer) (old now : Node S E D M) (m : Message) (ends : E) → IsSending keeps mark owner reaches room puts gots setup to number answer old now → answer.sent ≡ Some m
      → mark ends ≡ mark old.ends → AddsOne m.to m (puts old.ends) (puts ends) → AreSame (gots old.ends) (gots ends)
      → IsNode keeps mark owner reaches room puts gots setup old.still.course.me (record old { still = record old.still { course = now.still.course; storage = now.still.storage }; ends = ends; counts = slice_set old.counts to (number + 1) })
  has_put to number answer old now m ends h is same put got =
      let me : ℕ = old.still.course.me in
      let es : List StepEntry = old.still.course.entries in
      let e : StepEntry = answer.entry in
      let was = h.was in
      let sendings : List Sending = was.still.sendings in
      let sent = sent_is to number answer old now m h is in
      let last : Local = local_of setup.replicas sendings old.still.course in
      let next : Local = local_of setup.replicas (sendings ++ sending_of m ∷ []) now.still.course in
      let step : HandSteps setup me None last e next =
      subst (λ (xs : List Sending). HandSteps setup me None last e (local_of setup.replicas (sendings ++ xs) now.still.course)) sent.1 (h.steps sendings (sent_before to number answer old now h)) in
      let here : (t : ℕ) → t ≡ to → puts ends t ≡ puts old.ends t ++ m ∷ [] = λ t at. put t ∙ ap (λ b. if b then puts old.ends t ++ m ∷ [] else puts old.ends t) (eq-eqb t m.to (at ∙ sym sent.0)) in
      let there : (t : ℕ) → t ≢ to → puts ends t ≡ puts old.ends t = λ t ne. put t ∙ ap (λ b. if b then puts old.ends t ++ m ∷ [] else puts old.ends t) (ne_eqb t m.to (λ at. ne (at ∙ sent.0))) in
      let parted : (t : ℕ) → sent_to t (sendings ++ sending_of m ∷ []) ≡ sent_to t sendings ++ (if eqb m.to t then sending_of m ∷ [] else []) = λ t. filter-append (λ (s : Sending). eqb s.to t) sendings (sending_of m ∷ []) in
      let sent_now : (t : ℕ) → sent_to t (sendings ++ sending_of m ∷ []) ≡ map sending_of (puts ends t) = λ t. elim (cases_eq t to) [
        | inl at ↦
            parted t ∙ ap (λ b. sent_to t sendings ++ (if b then sending_of m ∷ [] else [])) (eq-eqb m.to t (sent.0 ∙ sym at))
            ∙ ap (λ (xs : List Sending). xs ++ sending_of m ∷ []) (was.still.alone.sent t)
            ∙ sym (map-append sending_of (puts old.ends t) (m ∷ []))
            ∙ ap (map sending_of) (sym (here t at))
        | inr ne ↦
            parted t ∙ ap (λ b. sent_to t sendings ++ (if b then sending_of m ∷ [] else [])) (ne_eqb m.to t (λ at. ne (sym at ∙ sent.0)))
            ∙ append-nil (sent_to t sendings)
            ∙ was.still.alone.sent t
            ∙ ap (map sending_of) (sym (there t ne))
      ] in
      let s : Handed = record { entry = e; hand = None } in
      let alone : RunsAlone setup me old.still.course.first_up was.taken (puts ends) (es ++ e ∷ []) next =
      alone_more setup me old.still.course.first_up was.taken (puts old.ends) was.taken (puts ends) es last next s was.still.alone step (λ from. sym (append-nil (was.taken from))) sent_now in
      let entries : now.still.course.entries ≡ es ++ e ∷ [] = h.adds.entries in
      let grows : SendsGrow (room (mark old.ends)) es now.still.course.entries = sends_grow (room (mark old.ends)) es now.still.course.entries e entries was.full (λ t refused. numbered_differs to t number (sym h.adds.asked ∙ refused.asked)) in
      let counted = was.counted to h.peer in
      record {
        taken = was.taken;
        still = record {
          own = h.own;
          kept = h.kept;
          sendings = sendings ++ sending_of m ∷ [];
          alone = subst (λ (xs : List StepEntry). RunsAlone setup me now.still.course.first_up was.taken (puts ends) xs next) (sym entries)
              (subst (λ b. RunsAlone setup me b was.taken (puts ends) (es ++ e ∷ []) next) (sym h.adds.same.first_up) alone);
          hands = was.still.hands;
          from = was.still.from;
        };
        got = λ from. got from ∙ was.got from;
        counted = λ t peer. elim (cases_eq t to) [
          | inl at ↦
              ap (slice_get (slice_set old.counts to (number + 1))) at
              ∙ get_set_same old.counts to (number + 1) (slice_get_within old.counts to (length (puts old.ends to)) counted)
              ∙ ap (λ n. Some (n + 1)) (h.counted ∙ ap (λ i. length (puts old.ends i)) (sym at))
              ∙ ap Some (sym (ap length (here t at) ∙ length-append (puts old.ends t) (m ∷ [])))
          | inr ne ↦ get_other old.counts to t (number + 1) ne ∙ was.counted t peer ∙ ap (λ (ms : List Message). Some (length ms)) (sym (there t ne))
        ];
        asked = λ t. elim (cases_eq t to) [
          | inl at ↦
              let long = ap length (here t at) ∙ length-append (puts old.ends t) (m ∷ []) in
              let le = was.asked t in
              let more : sends_to t now.still.course.entries ≡ sends_to t es + 1 =
              ap (sends_to t) entries ∙ sends_one_more t es e (ap (asks_send t) h.adds.asked ∙ ap (λ i. asks_send t (asks.Send i (Some number))) (sym at) ∙ asks_same t (Some number)) in
              omega (arith, long, le, more)
          | inr ne ↦ let long = ap length (there t ne) in let le = was.asked t in let more = grows.no_less t in omega (arith, long, le, more)
        ];
        full = subst (λ x. KeepsRoom (room x) now.still.course.entries) (sym same) grows.room_kept;
        owned = ap owner same ∙ was.owned;
        peers = λ t peer. subst (λ x. reaches x t) (sym same) (was.peers t peer);
      }

  -- its entry
  pub put_adds : (to number : ℕ) (answer : Answer) (old now : Node S E D M) → IsSending keeps mark owner reaches room puts gots setup to number answer old now → IsOf old.still.course now.still.course × AddsEntry (asks.Send to None) answer.entry old.still.course now.still.course
  put_adds to number answer old now h = (h.adds.same, record { entries = h.adds.entries; asked = ap plain h.adds.asked })

  -- its link was full
  pub found_full : (to number : ℕ) (answer : Answer) (old now : Node S E D M) (m : Message) (ends : E) (e : StepEntry) → IsSending keeps mark owner reaches room puts gots setup to number answer old now → answer.sent ≡ Some m
      → e ≡ entry_of now.still.course now.still.course.stamp (asks.Send to None) outcomes.Full
      → mark ends ≡ mark old.ends → AreSame (puts old.ends) (puts ends) → room (mark old.ends) m.to ≤ length (puts old.ends m.to) → AreSame (gots old.ends) (gots ends)
      → IsNode keeps mark owner reaches room puts gots setup old.still.course.me (record old { still = record old.still { course = full_course old.still.course now.still.course e; storage = now.still.storage }; ends = ends })
  found_full to number answer old now m ends e h is entry same put no_room got =
      let me : ℕ = old.still.course.me in
      let es : List StepEntry = old.still.course.entries in
      let was = h.was in
      let sendings : List Sending = was.still.sendings in
      let sent = sent_is to number answer old now m h is in
      let course : Course = full_course old.still.course now.still.course e in
      let last : Local = local_of setup.replicas sendings old.still.course in
      let next : Local = local_of setup.replicas sendings course in
      let sends = h.steps sendings (sent_before to number answer old now h) in
      let asked : e.ask ≡ asks.Send to None = ap (λ (f : StepEntry). f.ask) entry in
      let refused : IsRefused to e = record { asked = asked; outcome = ap (λ (f : StepEntry). f.outcome) entry } in
      let stamp : e.stamp ≡ now.still.course.stamp = ap (λ (f : StepEntry). f.stamp) entry in
      let stays : next ≡ record last { standing = record last.standing { stamp = e.stamp } } =
      full_leaves setup to number sendings (sendings ++ sent_by (asks.Send to (Some number)) answer.entry.stamp answer.sent) old.still.course now.still.course answer.entry (sends.step tt) h.up h.adds.asked h.adds.same.me
      ∙ ap (λ i. let l : Local = record last { standing = record last.standing { stamp = i } } in l) (sym sends.stamp_kept ∙ sym stamp) in
      let step : HandSteps setup me None last e next = record {
        replica = ap (λ (f : StepEntry). f.replica) entry ∙ h.adds.same.me;
        fits = subst (AskFits setup me) (sym asked) h.peer;
        in_hand = hand_none e.ask (running_of old.still.course) to asked;
        stamp = stamp ∙ sends.stamp_kept ∙ sends.stamp;
        stamp_kept = sym stamp;
        put = [];
        puts = puts_none me e.ask e.stamp to sendings asked;
        sendings = sym (append-nil sendings);
        short = sends.short;
        step = λ heeded. inr (record { to = to; refused = refused; up = h.up; stays = stays });
      } in
      let s : Handed = record { entry = e; hand = None } in
      let alone : RunsAlone setup me old.still.course.first_up was.taken (puts ends) (es ++ e ∷ []) next =
      alone_more setup me old.still.course.first_up was.taken (puts old.ends) was.taken (puts ends) es last next s was.still.alone step (λ from. sym (append-nil (was.taken from))) (λ t. was.still.alone.sent t ∙ ap (map sending_of) (sym (put t))) in
      let one_more : sends_to to (es ++ e ∷ []) ≡ sends_to to es + 1 = sends_one_more to es e (ap (asks_send to) asked ∙ asks_same to None) in
      record {
        taken = was.taken;
        still = record {
          own = full_own setup me old.still.course now.still.course answer.entry e h.own h.adds.entries;
          kept = h.kept;
          sendings = sendings;
          alone = subst (λ b. RunsAlone setup me b was.taken (puts ends) (es ++ e ∷ []) next) (sym h.adds.same.first_up) alone;
          hands = was.still.hands;
          from = was.still.from;
        };
        got = λ from. got from ∙ was.got from;
        counted = λ t peer. was.counted t peer ∙ ap (λ (ms : List Message). Some (length ms)) (sym (put t));
        asked = λ t. let le = was.asked t in let eq = ap length (put t) in omega (arith, le, eq, sends_more t es e);
        full = subst (λ x. KeepsRoom (room x) (es ++ e ∷ [])) (sym same) (room_more (room (mark old.ends)) es e was.full (λ t refuses.
            let at : to ≡ t = same_peer to t (sym asked ∙ refuses.asked) in
            let few : room (mark old.ends) to ≤ length (puts old.ends to) = subst (λ i. room (mark old.ends) i ≤ length (puts old.ends i)) sent.0 no_room in
            let le = was.asked to in
            subst (λ i. room (mark old.ends) i < sends_to i (es ++ e ∷ [])) at (omega (arith, few, le, one_more))));
        owned = ap owner same ∙ was.owned;
        peers = λ t peer. subst (λ x. reaches x t) (sym same) (was.peers t peer);
      }

  pub full_adds : (to number : ℕ) (answer : Answer) (old now : Node S E D M) (e : StepEntry) → IsSending keeps mark owner reaches room puts gots setup to number answer old now → e ≡ entry_of now.still.course now.still.course.stamp (asks.Send to None) outcomes.Full
      → IsOf old.still.course (full_course old.still.course now.still.course e) × AddsEntry (asks.Send to None) e old.still.course (full_course old.still.course now.still.course e)
  full_adds to number answer old now e h entry = (record { me = h.adds.same.me; first_up = h.adds.same.first_up }, record { entries = refl; asked = ap plain (ap (λ (f : StepEntry). f.ask) entry) })
