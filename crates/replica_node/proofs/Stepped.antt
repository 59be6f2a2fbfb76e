-- The step of a course is one of a replica by itself.
use Rattle.std.proofs.Common.{◌≡◌, ◌≢◌, inl, inr, ℕ, ◌+◌, ◌*◌, ◌<◌, ◌≤◌, ◌^◌, List, [], ◌∷◌, ◌++◌, length, refl, sym, ap, subst, ◌∙◌, arith}
use Rattle.std.specs.Prelude.{min, IfOk, Option, Some, None, Result, Ok, Err}
use Rattle.std.proofs.Math.Seq.{drop-length}
use Rattle.std.proofs.lemmas.List.{append-nil}
use Rattle.spec_model.specs.declared.plan.Setup.{Setup}
use Rattle.spec_model.specs.declared.log.LogItem.{LogItem}
use Rattle.run_model.specs.declared.batch.Batch.{Batch}
use Rattle.run_model.specs.declared.message.Message.{Message}
use Rattle.run_model.specs.declared.step.Ask.{Ask}
use Rattle.run_model.specs.declared.step.Ask.TheVariants as asks
use Rattle.run_model.specs.declared.step.Outcome.{Outcome}
use Rattle.run_model.specs.declared.step.Outcome.TheVariants as outcomes
use Rattle.run_model.specs.declared.step.StepEntry.{StepEntry}
use Rattle.run_model.specs.Locals.{Local, LocalSteps}
use Rattle.run_model.specs.Logs.{Logs, log_at, with_all}
use Rattle.run_model.specs.Steps.{Answers, AnswersDown, AnswersUp, Ends, Rests, Sends, Steps, message_of, next_stamp}
use Rattle.run_model.specs.Worlds.{Running, Up, Down, Sending, Standing, batch_of, items_between, sent_to}
use Rattle.replica_core.specs.Laws.{DecidedGrow}
use Rattle.replica_core.specs.Recovered.{AreCommitted, logs_after}
use Rattle.message_laws.specs.Views.{seeing}
use Rattle.replica_course.specs.Courses.{IsCourse, local_of, running_of, standing_of, view_of}
use Rattle.replica_course.specs.Steps as course
use Rattle.replica_course.specs.Steps.{CourseSteps, HasInHand, IsCounted, IsWhole, SentFits, last_stamp, sent_by}
use Rattle.replica_course.specs.declared.answer.Answer.{Answer}
use Rattle.replica_course.specs.declared.course.Course.{Course}
use Rattle.replica_course.specs.declared.heard.Heard.{Heard}
use Rattle.replica_course.specs.declared.heard.Heard.TheVariants as heard
use Rattle.local_runs.specs.Handed.{AskFits, HandSteps, IsHeeded, IsInHand, IsNext, IsRefused, Puts, heard_of, sending_of}
use Rattle.replica_node.specs.Nodes.{IsHand, message_in}
use Rattle.replica_node.specs.Steps.{Acts, CourseAdds, NumberedUp}

-- ---- what is asked, and what is in hand

pub asks_fit : (setup : Setup) (me : ℕ) (running : Running) (ask : Ask) → course.AskFits setup me running ask → AskFits setup me ask
asks_fit setup me running (asks.Do inst) fits = fits
asks_fit setup me Up (asks.Send to number) fits = fits.0
asks_fit setup me (Down pending) (asks.Send to number) fits = fits
asks_fit setup me running (asks.Take from number) fits = fits
asks_fit setup me running asks.Crash fits = tt
asks_fit setup me running asks.Recover fits = tt

hand_is : (ask : Ask) (running : Running) (h : Heard) → NumberedUp running ask → HasInHand ask running h → IsHand h → IsInHand ask running (message_in h)
hand_is (asks.Do inst) running h numbered is hand = ap message_in is
hand_is (asks.Send to number) running h numbered is hand = ap message_in is
hand_is (asks.Take from None) Up heard.Nothing numbered is hand = refl
hand_is (asks.Take from None) Up (heard.Unsent stamp) numbered is hand = absurd hand
hand_is (asks.Take from None) Up (heard.Message m) numbered is hand = absurd (never m.number is.1)
  where
    never : (n : ℕ) → None ≡ Some n → ⊥
    never n eq = cc
hand_is (asks.Take from (Some number)) Up heard.Nothing numbered is hand = absurd (never is)
  where
    never : Some number ≡ None → ⊥
    never eq = cc
hand_is (asks.Take from (Some number)) Up (heard.Unsent stamp) numbered is hand = absurd hand
hand_is (asks.Take from (Some number)) Up (heard.Message m) numbered is hand = (m, refl, is.0, sym (some_same number m.number is.1))
  where
    some_same : (a b : ℕ) → Some a ≡ Some b → a ≡ b
    some_same a b eq = cc
hand_is (asks.Take from None) (Down pending) h numbered is hand = ap message_in is
hand_is (asks.Take from (Some number)) (Down pending) h numbered is hand = absurd (never numbered)
  where
    never : Some number ≡ None → ⊥
    never eq = cc
hand_is asks.Crash running h numbered is hand = ap message_in is
hand_is asks.Recover running h numbered is hand = ap message_in is

heard_same : (me : ℕ) (h : Heard) → IsHand h → course.heard_of me h ≡ heard_of (message_in h)
heard_same me heard.Nothing hand = refl
heard_same me (heard.Unsent stamp) hand = absurd hand
heard_same me (heard.Message m) hand = refl

whole_is : (setup : Setup) (sendings : List Sending) (c : Course) (h : Heard) → IsHand h → IsHeeded setup c.me (local_of setup.replicas sendings c) (message_in h) → IsWhole setup c.me c h
whole_is setup sendings c heard.Nothing hand heeded = tt
whole_is setup sendings c (heard.Unsent stamp) hand heeded = absurd hand
whole_is setup sendings c (heard.Message m) hand heeded = heeded

-- ---- what is sent

pub last_same : {X : Type 0} (xs : List X) (a b : X) → xs ++ a ∷ [] ≡ xs ++ b ∷ [] → a ≡ b
last_same [] a b is = cc
last_same (x ∷ xs) a b is = last_same xs a b (tail (xs ++ a ∷ []) (xs ++ b ∷ []) is)
  where
    tail : (ys zs : List _) → x ∷ ys ≡ x ∷ zs → ys ≡ zs
    tail ys zs eq = cc

-- what a send with a number leaves of a replica that is up: nothing is applied, and all is as it was but for what it sent
record HasSent (old : Standing) (applied : List LogItem) (after : Standing) : Type 0 where
  sending : Sending
  message : Message
  is : sending.message ≡ Some message
  none : applied ≡ []
  becomes : after ≡ record old { sendings = old.sendings ++ sending ∷ [] }

has_sent : (setup : Setup) (me to number : ℕ) (old new : Local) (e : StepEntry) → (step : LocalSteps setup me None old e new) → old.standing.running ≡ Up → e.ask ≡ asks.Send to (Some number) → HasSent old.standing step.applied step.steps.after
has_sent setup me to number old new e step up asked =
    let logs : Logs = with_all step.admitted old.known in
    let at : Steps setup logs me None step.admitted step.applied old.standing e new.standing = step.steps in
    let is_up : Answers setup logs me Up None step.admitted step.applied e.stamp e.ask old.standing e.outcome at.after =
    subst (λ (r : Running). Answers setup logs me r None step.admitted step.applied e.stamp e.ask old.standing e.outcome at.after) up at.answers in
    let answers : AnswersUp setup logs me None step.admitted step.applied e.stamp (asks.Send to (Some number)) old.standing e.outcome at.after =
    subst (λ (a : Ask). AnswersUp setup logs me None step.admitted step.applied e.stamp a old.standing e.outcome at.after) asked is_up in
    let sends : Sends setup logs me to number e.stamp old.standing answers.would answers.draft = answers.drafts.1 in
    let m : Message = message_of setup logs me to number e.stamp old.standing in
    elim answers.ends [
      | inl kept ↦ record {
        sending = record { to = to; stamp = e.stamp; message = Some m };
        message = m;
        is = refl;
        none = kept.0 ∙ answers.drafts.0;
        becomes = kept.2 ∙ sends.becomes;
      }
      | inr broken ↦
          let none : items_between step.admitted old.standing answers.draft ≡ [] =
          ap (λ (items : List LogItem). items_between items old.standing answers.draft) answers.drafts.0 ∙ ap (λ (p : Standing). items_between [] old.standing p) sends.becomes ∙ drop-length old.standing.log in
          absurd (nothing broken.0 (sym (ap batch_of none) ∙ broken.1))
    ]
  where
    nothing : (batch : Batch) → [] ≡ batch ∷ [] → ⊥
    nothing batch is = cc

-- a send that has a number, of a replica that is up, sends a message
sends_one : (setup : Setup) (me to number : ℕ) (old new : Local) (e : StepEntry) → LocalSteps setup me None old e new → old.standing.running ≡ Up → e.ask ≡ asks.Send to (Some number)
    → (s : Sending) × (m : Message) × (s.message ≡ Some m) × (new.standing.sendings ≡ old.standing.sendings ++ s ∷ [])
sends_one setup me to number old new e step up asked =
    let sent : HasSent old.standing step.applied step.steps.after = has_sent setup me to number old new e step up asked in
    (sent.sending, sent.message, sent.is, ap (λ (p : Standing). p.sendings) step.steps.becomes ∙ ap (λ (p : Standing). p.sendings) sent.becomes)

-- so it stands as before, but for its stamp and what it sent
pub send_leaves : (setup : Setup) (to number : ℕ) (before after : List Sending) (old new : Course) (e : StepEntry) → LocalSteps setup old.me None (local_of setup.replicas before old) e (local_of setup.replicas after new) → running_of old ≡ Up → e.ask ≡ asks.Send to (Some number) → new.me ≡ old.me
    → local_of setup.replicas before new ≡ record (local_of setup.replicas before old) { standing = record (standing_of setup.replicas before old) { stamp = e.stamp } }
send_leaves setup to number before after old new e step up asked me =
    let n : ℕ = setup.replicas in
    let st : Standing = standing_of n before old in
    let sent : HasSent st step.applied step.steps.after = has_sent setup old.me to number (local_of n before old) (local_of n after new) e step up asked in
    let none : items_between step.applied st step.steps.after ≡ [] =
    ap (λ (items : List LogItem). items_between items st step.steps.after) sent.none ∙ ap (λ (p : Standing). items_between [] st p) sent.becomes ∙ drop-length st.log in
    let kept : old.kept ++ batch_of (items_between step.applied st step.steps.after) ≡ old.kept =
    ap (λ (items : List LogItem). old.kept ++ batch_of items) none ∙ append-nil old.kept in
    let becomes : standing_of n before new ≡ record st { stamp = e.stamp } =
    ap (λ (p : Standing). let q : Standing = record p { sendings = before } in q) step.steps.becomes
    ∙ ap (λ (p : Standing). let q : Standing = record p { sendings = before; stamp = e.stamp; kept = old.kept ++ batch_of (items_between step.applied st step.steps.after) } in q) sent.becomes
    ∙ ap (λ (ks : List Batch). let q : Standing = record st { stamp = e.stamp; kept = ks } in q) kept in
    let same : new.kept ≡ old.kept = ap (λ (p : Standing). p.kept) becomes in
    let known : (view_of n new).known ≡ (view_of n old).known = ap (λ i. (seeing i (logs_after n new.kept)).known) me ∙ ap (λ (ks : List Batch). (seeing old.me (logs_after n ks)).known) same in
    ap (λ (p : Standing). let l : Local = record { standing = p; known = (view_of n new).known } in l) becomes
    ∙ ap (λ ks. let l : Local = record { standing = record st { stamp = e.stamp }; known = ks } in l) known

-- what a send puts on its link
puts_by : (setup : Setup) (me : ℕ) (ask : Ask) (stamp : ℕ) (sendings : List Sending) (sent : Option Message) → ((to number : ℕ) → ask ≡ asks.Send to (Some number) → (m : Message) × (sent ≡ Some m)) → SentFits setup me ask stamp sent → IsCounted ask sendings
    → Puts me ask stamp sendings (sent_by ask stamp sent)
puts_by setup me (asks.Do inst) stamp sendings sent some fits counted = refl
puts_by setup me (asks.Send to None) stamp sendings sent some fits counted = refl
puts_by setup me (asks.Send to (Some number)) stamp sendings sent some fits counted =
    let m : Message = (some to number refl).0 in
    let is : sent ≡ Some m = (some to number refl).1 in
    let fit : SentFits setup me (asks.Send to (Some number)) stamp (Some m) = subst (SentFits setup me (asks.Send to (Some number)) stamp) is fits in (
      m,
      record { sender = fit.1.0; receiver = fit.2; numbered = sym (some_same number m.number fit.1.1); stamped = fit.3; counted = counted },
      ap (λ (x : Option Message). let s : Sending = record { to = to; stamp = stamp; message = x } in s ∷ []) is
          ∙ ap (λ i. let s : Sending = record { to = i; stamp = stamp; message = Some m } in s ∷ []) (sym fit.2)
          ∙ ap (λ i. let s : Sending = record { to = m.to; stamp = i; message = Some m } in s ∷ []) (sym fit.3),
    )
  where
    some_same : (a b : ℕ) → Some a ≡ Some b → a ≡ b
    some_same a b eq = cc
puts_by setup me (asks.Take from number) stamp sendings sent some fits counted = refl
puts_by setup me asks.Crash stamp sendings sent some fits counted = refl
puts_by setup me asks.Recover stamp sendings sent some fits counted = refl

-- ---- the step

min_is : (a b : ℕ) → a ≤ b → min a b ≡ a
min_is a b le = omega (arith, le)

-- its log has at most 24 items for each batch that it kept, and that for each of its steps
pub short_log : DecidedGrow → (setup : Setup) (me : ℕ) (c : Course) (sendings : List Sending) → IsCourse setup me c → length c.entries ≤ 100000 → length (local_of setup.replicas sendings c).standing.log ≤ 4194304
short_log grow setup me c sendings own le =
    let committed : AreCommitted setup c.me c.kept = subst (λ i. AreCommitted setup i c.kept) (sym own.me_is) own.committed in
    let bound : length (log_at (logs_after setup.replicas c.kept) c.me) ≤ 24 * length c.kept = grow.own setup c.me c.kept committed in
    let few : length c.kept ≤ length c.entries = own.few_kept in
    omega (arith, bound, few, le)

-- only a replica that is up numbers a send
numbered_up : (running : Running) (to number : ℕ) → NumberedUp running (asks.Send to (Some number)) → running ≡ Up
numbered_up Up to number is = refl
numbered_up (Down pending) to number is = absurd (never number is)
  where
    never : (n : ℕ) → Some n ≡ None → ⊥
    never n eq = cc

-- a send has nothing in hand
send_alone : (to number : ℕ) (running : Running) (h : Heard) → HasInHand (asks.Send to (Some number)) running h → h ≡ heard.Nothing
send_alone to number running h is = is

-- where it heeds whole what it has in hand it takes a step of a replica of a run
pub hand_local : (setup : Setup) (ask : Ask) (h : Heard) (old new : Course) (answer : Answer) (sendings : List Sending) → IsHand h → next_stamp old.stamp (course.heard_of old.me h) < 2 ^ 64 → CourseSteps setup ask h old answer new → IsCounted ask sendings
    → IsHeeded setup old.me (local_of setup.replicas sendings old) (message_in h)
    → LocalSteps setup old.me (heard_of (message_in h)) (local_of setup.replicas sendings old) answer.entry (local_of setup.replicas (sendings ++ sent_by ask answer.entry.stamp answer.sent) new)
hand_local setup ask h old new answer sendings hand lt steps counted heeded =
    let before : Local = local_of setup.replicas sendings old in
    let after : Local = local_of setup.replicas (sendings ++ sent_by ask answer.entry.stamp answer.sent) new in
    subst (λ (x : Option Sending). LocalSteps setup old.me x before answer.entry after) (heard_same old.me h hand) (steps.step sendings counted (whole_is setup sendings old h hand heeded) lt)

pub hand_step : DecidedGrow → (setup : Setup) (ask : Ask) (h : Heard) (old new : Course) (answer : Answer) (sendings : List Sending) → IsCourse setup old.me new → length old.entries < 100000 → course.AskFits setup old.me (running_of old) ask
    → NumberedUp (running_of old) ask → HasInHand ask (running_of old) h → IsHand h → next_stamp old.stamp (course.heard_of old.me h) < 2 ^ 64 → CourseSteps setup ask h old answer new → IsCounted ask sendings
    → HandSteps setup old.me (message_in h) (local_of setup.replicas sendings old) answer.entry (local_of setup.replicas (sendings ++ sent_by ask answer.entry.stamp answer.sent) new)
hand_step grow setup ask h old new answer sendings own few fits numbered in_hand hand lt steps counted = record {
  replica = steps.replica;
  fits = subst (AskFits setup old.me) (sym steps.asked) (asks_fit setup old.me (running_of old) ask fits);
  in_hand = subst (λ (a : Ask). IsInHand a (running_of old) (message_in h)) (sym steps.asked) (hand_is ask (running_of old) h numbered in_hand hand);
  stamp = steps.stamp ∙ min_is (next_stamp old.stamp (course.heard_of old.me h)) last_stamp (omega (arith, lt)) ∙ ap (next_stamp old.stamp) (heard_same old.me h hand);
  stamp_kept = steps.stamp_kept;
  put = sent_by ask answer.entry.stamp answer.sent;
  puts = subst (λ (a : Ask). Puts old.me a answer.entry.stamp sendings (sent_by ask answer.entry.stamp answer.sent)) (sym steps.asked) (puts_by setup old.me ask answer.entry.stamp sendings answer.sent some steps.sent counted);
  sendings = refl;
  short = short_log grow setup old.me new (sendings ++ sent_by ask answer.entry.stamp answer.sent) own (omega (arith, ap length steps.entries, length_more old.entries answer.entry, few));
  step = λ heeded. inl (hand_local setup ask h old new answer sendings hand lt steps counted heeded);
}
  where
    before : Local
    before = local_of setup.replicas sendings old

    after : Local
    after = local_of setup.replicas (sendings ++ sent_by ask answer.entry.stamp answer.sent) new

    length_more : (xs : List StepEntry) (x : StepEntry) → length (xs ++ x ∷ []) ≡ length xs + 1
    length_more [] x = refl
    length_more (y ∷ xs) x = omega (arith, length_more xs x)

    some : (to number : ℕ) → ask ≡ asks.Send to (Some number) → (m : Message) × (answer.sent ≡ Some m)
    some to number is =
        let nothing : h ≡ heard.Nothing = send_alone to number (running_of old) h (subst (λ (a : Ask). HasInHand a (running_of old) h) is in_hand) in
        let whole : IsWhole setup old.me old h = subst (IsWhole setup old.me old) (sym nothing) tt in
        let local : LocalSteps setup old.me None before answer.entry after =
        subst (λ (x : Option Sending). LocalSteps setup old.me x before answer.entry after) (ap (course.heard_of old.me) nothing) (steps.step sendings counted whole lt) in
        let up : running_of old ≡ Up = numbered_up (running_of old) to number (subst (NumberedUp (running_of old)) is numbered) in
        let one = sends_one setup old.me to number before after answer.entry local up (steps.asked ∙ is) in
        let s : Sending = record { to = to; stamp = answer.entry.stamp; message = answer.sent } in
        let same : s ≡ one.0 = last_same sendings s one.0 (ap (λ (a : Ask). sendings ++ sent_by a answer.entry.stamp answer.sent) (sym is) ∙ one.3) in
        (one.1, ap (λ (x : Sending). x.message) same ∙ one.2)

-- ---- a replica that is down

-- what a replica that is down answers
down_answers : (setup : Setup) (me : ℕ) (pending : Option Batch) (heard : Option Sending) (old new : Local) (e : StepEntry) → (step : LocalSteps setup me heard old e new) → old.standing.running ≡ Down pending
    → AnswersDown setup.replicas me pending step.applied e.stamp e.ask old.standing e.outcome step.steps.after
down_answers setup me pending heard old new e step down =
    let logs : Logs = with_all step.admitted old.known in
    let at : Steps setup logs me heard step.admitted step.applied old.standing e new.standing = step.steps in
    let is_down : Answers setup logs me (Down pending) heard step.admitted step.applied e.stamp e.ask old.standing e.outcome at.after =
    subst (λ (r : Running). Answers setup logs me r heard step.admitted step.applied e.stamp e.ask old.standing e.outcome at.after) down at.answers in
    is_down.1

-- it leaves a send that has no number, and a take
pub down_sends : (setup : Setup) (me to : ℕ) (pending : Option Batch) (heard : Option Sending) (old new : Local) (e : StepEntry) → LocalSteps setup me heard old e new → old.standing.running ≡ Down pending → e.ask ≡ asks.Send to None → (e.outcome ≡ outcomes.Down) × (new.standing.running ≡ old.standing.running)
down_sends setup me to pending heard old new e step down asked =
    let rests : Rests step.applied old.standing e.outcome step.steps.after =
    subst (λ (a : Ask). AnswersDown setup.replicas me pending step.applied e.stamp a old.standing e.outcome step.steps.after) asked (down_answers setup me pending heard old new e step down) in
    (rests.1, ap (λ (p : Standing). p.running) step.steps.becomes ∙ ap (λ (p : Standing). p.running) rests.2)

pub down_takes : (setup : Setup) (me from : ℕ) (number : Option ℕ) (pending : Option Batch) (heard : Option Sending) (old new : Local) (e : StepEntry) → LocalSteps setup me heard old e new → old.standing.running ≡ Down pending → e.ask ≡ asks.Take from number
    → (e.outcome ≡ outcomes.Down) × (new.standing.running ≡ old.standing.running)
down_takes setup me from number pending heard old new e step down asked =
    let rests : Rests step.applied old.standing e.outcome step.steps.after =
    subst (λ (a : Ask). AnswersDown setup.replicas me pending step.applied e.stamp a old.standing e.outcome step.steps.after) asked (down_answers setup me pending heard old new e step down) in
    (rests.1, ap (λ (p : Standing). p.running) step.steps.becomes ∙ ap (λ (p : Standing). p.running) rests.2)

-- so it isn't refused a send
pub down_rests : (setup : Setup) (me to : ℕ) (pending : Option Batch) (heard : Option Sending) (old new : Local) (e : StepEntry) → LocalSteps setup me heard old e new → old.standing.running ≡ Down pending → IsRefused to e → ⊥
down_rests setup me to pending heard old new e step down refused =
    let rests = down_sends setup me to pending heard old new e step down refused.asked in
    differ (sym rests.0 ∙ refused.outcome)
  where
    differ : outcomes.Down ≡ outcomes.Full → ⊥
    differ is = cc

-- ---- where the step was taken

pub steps_if : {E : Type 0} → DecidedGrow → (setup : Setup) (ask : Ask) (h : Heard) (old new : Course) (result : Result Answer E) → IsCourse setup old.me new → length old.entries < 100000 → course.AskFits setup old.me (running_of old) ask
    → NumberedUp (running_of old) ask → HasInHand ask (running_of old) h → IsHand h → next_stamp old.stamp (course.heard_of old.me h) < 2 ^ 64 → IfOk result (λ answer. CourseSteps setup ask h old answer new)
    → IfOk result (λ answer. (sendings : List Sending) → IsCounted ask sendings
    → HandSteps setup old.me (message_in h) (local_of setup.replicas sendings old) answer.entry (local_of setup.replicas (sendings ++ sent_by ask answer.entry.stamp answer.sent) new))
steps_if grow setup ask h old new (Ok answer) own few fits numbered in_hand hand lt steps = λ sendings counted. hand_step grow setup ask h old new answer sendings own few fits numbered in_hand hand lt steps counted
steps_if grow setup ask h old new (Err e) own few fits numbered in_hand hand lt steps = tt

pub local_if : {E : Type 0} (setup : Setup) (ask : Ask) (h : Heard) (old new : Course) (result : Result Answer E) → IsHand h → next_stamp old.stamp (course.heard_of old.me h) < 2 ^ 64 → IfOk result (λ answer. CourseSteps setup ask h old answer new)
    → IfOk result (λ answer. (sendings : List Sending) → IsCounted ask sendings → IsHeeded setup old.me (local_of setup.replicas sendings old) (message_in h)
    → LocalSteps setup old.me (heard_of (message_in h)) (local_of setup.replicas sendings old) answer.entry (local_of setup.replicas (sendings ++ sent_by ask answer.entry.stamp answer.sent) new))
local_if setup ask h old new (Ok answer) hand lt steps = λ sendings counted. hand_local setup ask h old new answer sendings hand lt steps counted
local_if setup ask h old new (Err e) hand lt steps = tt
