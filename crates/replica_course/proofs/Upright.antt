-- How a replica that is up stands, and what its requests and sends come to.
use Rattle.std.proofs.Common.{◌≡◌, ◌≢◌, inl, ℕ, ◌+◌, List, [], ◌∷◌, ◌++◌, length, max, refl, sym, ap, subst, ◌∙◌, arith}
use Rattle.std.specs.Prelude.{Option, Some, None, min, slice_set}
use Rattle.std.proofs.lemmas.List.{append-nil}
use Rattle.spec_model.specs.declared.plan.Setup.{Setup}
use Rattle.spec_model.specs.declared.clause.Broken.{Broken}
use Rattle.spec_model.specs.declared.instance.Inst.{Inst}
use Rattle.spec_model.specs.declared.right.Lacking.{Lacking}
use Rattle.run_model.specs.declared.batch.Batch.{Batch}
use Rattle.run_model.specs.declared.message.Message.{Message}
use Rattle.run_model.specs.declared.step.Ask.TheVariants as asks
use Rattle.run_model.specs.declared.step.Outcome.{Outcome}
use Rattle.run_model.specs.declared.step.Outcome.TheVariants as outcomes
use Rattle.run_model.specs.declared.step.StepEntry.{StepEntry}
use Rattle.run_model.specs.Fitting.{MessageFits}
use Rattle.run_model.specs.Locals.{Local}
use Rattle.run_model.specs.Logs.{Logs, log_at}
use Rattle.run_model.specs.Steps.{Answers, AnswersUp, Requested, Requests, Sends, message_of}
use Rattle.run_model.specs.Wants.{noted, want_of}
use Rattle.run_model.specs.Worlds.{Running, Sending, Standing, Up}
use Rattle.message_laws.specs.Views.{View, seeing}
use Rattle.replica_core.specs.Decisions.{Decides, lacking_here}
use Rattle.replica_core.specs.declared.decision.Decision.TheVariants as decision
use Rattle.replica_core.specs.Recovered.{AreCommitted, HasCommitted, logs_after}
use Rattle.replica_core.specs.Replicas.{HasAnswered, IsReplica, known_to, own_log}
use Rattle.replica_core.specs.Replicas as cores
use Rattle.replica_core.specs.declared.replica.Replica.{Replica}
use Rattle.replica_core.proofs.Items.{set_back}
use Rattle.replica_course.specs.Courses.{IsCourse, local_of, running_in, running_of, standing_of, told_in, view_of, wants_in}
use Rattle.replica_course.specs.Parts.{HasNoted, entry_of, with_entry}
use Rattle.replica_course.specs.Steps.{CourseSteps, last_stamp}
use Rattle.replica_course.specs.declared.answer.Answer.{Answer}
use Rattle.replica_course.specs.declared.course.Course.{Course}
use Rattle.replica_course.specs.declared.course.State.{State}
use Rattle.replica_course.specs.declared.course.State.TheVariants as states
use Rattle.replica_course.specs.declared.heard.Heard.TheVariants as heard
use Rattle.replica_course.proofs.Seen.{committed_up, view_seen, view_up}
use Rattle.replica_course.proofs.Rested.{stamp_next, still}
use Rattle.replica_course.proofs.Stepping.{IsStep, Stays, has_stepped, later, stays_step}

-- ---- how it stands

-- a replica with this last stamp, which sent this and kept these batches
abbrev pub local_up : ℕ → List Sending → List Batch → Replica → Local
local_up stamp sendings kept r = record { standing = cores.standing_of stamp sendings kept r; known = known_to r }

-- so stands the course of a replica that has committed just the batches that it kept
pub local_seen : (setup : Setup) (sendings : List Sending) (c : Course) (r : Replica) → c.state ≡ states.Up r → r.me ≡ c.me → HasCommitted setup c.kept r → local_of setup.replicas sendings c ≡ local_up c.stamp sendings c.kept r
local_seen setup sendings c r up me committed =
    let n : ℕ = setup.replicas in
    let at : View → State → Local = λ v s. record {
      standing = record { log = log_at v.known v.me; cut = v.cut; stamp = c.stamp; wants = wants_in s; told = told_in n s; sendings = sendings; running = running_in s; kept = c.kept };
      known = v.known;
    } in
    let view : view_of n c ≡ cores.view_of r = ap (λ i. seeing i (logs_after n c.kept)) (sym me) ∙ sym (view_seen setup c.kept r committed) in
    ap (at (view_of n c)) up ∙ ap (λ (v : View). at v (states.Up r)) view

pub local_is : (setup : Setup) (sendings : List Sending) (c : Course) (r : Replica) → IsCourse setup c.me c → c.state ≡ states.Up r → local_of setup.replicas sendings c ≡ local_up c.stamp sendings c.kept r
local_is setup sendings c r own up = let here = committed_up setup c.me c r own up in local_seen setup sendings c r up here.0 here.1

-- ---- short of a need

-- it knows the same, if its own log is the same
known_still : (was has : Replica) → has.me ≡ was.me → own_log has ≡ own_log was → known_to has ≡ slice_set (known_to was) has.me (own_log has) → known_to has ≡ known_to was
known_still was has me log knows = knows ∙ ap (λ i. slice_set (known_to was) i (own_log has)) me ∙ ap (slice_set (known_to was) was.me) log ∙ set_back (known_to was) was.me

-- and has committed the same
pub committed_still : (setup : Setup) (kept : List Batch) (was has : Replica) → HasCommitted setup kept was → IsReplica setup was.me has → known_to has ≡ known_to was → HasCommitted setup kept has
committed_still setup kept was has h own knows = record {
  own = subst (λ i. IsReplica setup i has) (sym own.me_is) own;
  decided = subst (λ i. AreCommitted setup i kept) (sym own.me_is) h.decided;
  knows = knows ∙ h.knows;
}

pub short_step : (setup : Setup) (inst : Inst) (lacking : Lacking) (old : Course) (stamp : ℕ) (was has : Replica) → IsCourse setup old.me old → old.state ≡ states.Up was → Decides setup inst (cores.view_of was) (decision.Short lacking) → HasAnswered setup inst was (outcomes.Short lacking) has
    → stamp ≡ min (max old.stamp 0 + 1) last_stamp → IsStep setup (asks.Do inst) heard.Nothing old stamp (outcomes.Short lacking) None old.kept (states.Up has)
short_step setup inst lacking old stamp was has own up decided answered is =
    let kept : List Batch = old.kept in
    let here = committed_up setup old.me old was own up in
    let becomes : (s : ℕ) (sendings : List Sending) → cores.standing_of s sendings kept has ≡ record (cores.standing_of s sendings kept was) { wants = noted was.wants (want_of lacking.need) } = λ s sendings.
    let old_is : Standing = cores.standing_of s sendings kept was in
    let new_is : Standing = cores.standing_of s sendings kept has in
    let none = subst (λ (b : Option Broken). Requested was.me inst b (lacking_here setup inst (cores.view_of was)) old_is (outcomes.Short lacking) new_is) decided.2 (answered.requests s sendings kept) in
    (subst (λ (l : Option Lacking). Requested was.me inst None l old_is (outcomes.Short lacking) new_is) decided.0 none).1 in
    let log : own_log has ≡ own_log was = ap (λ (p : Standing). p.log) (becomes 0 []) in
    let knows : known_to has ≡ known_to was = known_still was has answered.own.me_is log answered.knows in
    let committed : HasCommitted setup kept has = committed_still setup kept was has here.1 answered.own knows in
    let me : has.me ≡ old.me = answered.own.me_is ∙ here.0 in
    still setup (asks.Do inst) heard.Nothing old stamp (outcomes.Short lacking) (states.Up has) own (me, committed) is (λ sendings counted whole.
    let entry : StepEntry = entry_of old stamp (asks.Do inst) (outcomes.Short lacking) in
    let next : Local = local_of setup.replicas (sendings ++ []) (later old entry kept (states.Up has)) in
    let requests : Requests setup (known_to was) old.me inst (cores.standing_of old.stamp sendings kept was) (outcomes.Short lacking) (cores.standing_of old.stamp sendings kept has) =
    subst (λ i. Requests setup (known_to was) i inst (cores.standing_of old.stamp sendings kept was) (outcomes.Short lacking) (cores.standing_of old.stamp sendings kept has)) here.0 (answered.requests old.stamp sendings kept) in
    subst (λ (l : Local). Stays setup old.me None l entry next) (sym (local_is setup sendings old was own up)) (record {
      admitted = [];
      after = cores.standing_of old.stamp sendings kept has;
      log = log;
      kept = refl;
      answers = record { would = outcomes.Short lacking; draft = cores.standing_of old.stamp sendings kept has; drafts = (refl, requests); ends = inl (refl, refl, refl) };
      becomes = local_seen setup (sendings ++ []) (later old entry kept (states.Up has)) has refl me committed
          ∙ ap (λ (s : List Sending). local_up stamp s kept has) (append-nil sendings)
          ∙ ap (λ (l : Logs). let n : Local = record { standing = cores.standing_of stamp sendings kept has; known = l } in n) knows;
    }))

-- ---- a send

pub sent_step : (setup : Setup) (to number : ℕ) (old : Course) (stamp : ℕ) (message : Message) → IsCourse setup old.me old → running_of old ≡ Up → to ≢ old.me
    → message ≡ message_of setup (view_of setup.replicas old).known old.me to number stamp (standing_of setup.replicas [] old) → MessageFits setup to message → stamp ≡ min (max old.stamp 0 + 1) last_stamp
    → IsStep setup (asks.Send to (Some number)) heard.Nothing old stamp (outcomes.Sent number (length message.items) (length message.wants)) (Some message) old.kept old.state
sent_step setup to number old stamp message own up other message_is fits is =
    let outcome : Outcome = outcomes.Sent number (length message.items) (length message.wants) in
    let entry : StepEntry = entry_of old stamp (asks.Send to (Some number)) outcome in
    let given : Message = message_of setup (view_of setup.replicas old).known old.me to number stamp (standing_of setup.replicas [] old) in
    record {
      own = own;
      stamp_is = stamp_next old.stamp old.me stamp heard.Nothing is;
      committed = own.committed;
      few = omega (arith, own.few_kept);
      here = own.state;
      sent = (fits, (ap (λ (m : Message). m.from) message_is, ap (λ (m : Message). Some m.number) (sym message_is)), ap (λ (m : Message). m.to) message_is, ap (λ (m : Message). m.stamp) message_is);
      step = λ sendings counted whole next.
          let l : Local = local_of setup.replicas sendings old in
          let sending : Message → Sending = λ m. record { to = to; stamp = stamp; message = Some m } in
          let with_it : Message → Standing = λ m. record l.standing { sendings = sendings ++ sending m ∷ [] } in
          let after : Standing = with_it message in
          let sends : Sends setup l.known old.me to number stamp l.standing outcome after = record {
            other = other;
            counted = counted;
            outcome_is = ap (λ (m : Message). outcomes.Sent number (length m.items) (length m.wants)) message_is;
            becomes = ap with_it message_is;
          } in
          let answers : AnswersUp setup l.known old.me None [] [] stamp (asks.Send to (Some number)) l.standing outcome after =
          record { would = outcome; draft = after; drafts = (refl, sends); ends = inl (refl, refl, refl) } in
          let end : Local = local_of setup.replicas (sendings ++ sending message ∷ []) (later old entry old.kept old.state) in
          stays_step setup old.me None l entry end refl next refl (record {
            admitted = [];
            after = after;
            log = refl;
            kept = refl;
            answers = subst (λ (r : Running). Answers setup l.known old.me r None [] [] stamp (asks.Send to (Some number)) l.standing outcome after) (sym up) answers;
            becomes = refl;
          });
    }

-- it wants what it is short of, behind its entry
pub short_stepped : (setup : Setup) (inst : Inst) (lacking noted : Lacking) (old mid new : Course) (stamp : ℕ) (entry : StepEntry) → IsCourse setup old.me old → Decides setup inst (view_of setup.replicas old) (decision.Short lacking) → noted ≡ lacking → stamp ≡ min (max old.stamp 0 + 1) last_stamp
    → entry ≡ entry_of old stamp (asks.Do inst) (outcomes.Short lacking) → mid ≡ with_entry (entry_of old stamp (asks.Do inst) (outcomes.Short lacking)) old → HasNoted noted mid new
    → IsCourse setup old.me new × CourseSteps setup (asks.Do inst) heard.Nothing old (record { entry = entry; sent = None }) new
short_stepped setup inst lacking noted old mid new stamp entry own decided same is entry_is mid_is h =
    let up : old.state ≡ states.Up h.was = sym (ap (λ (c : Course). c.state) mid_is) ∙ h.changed.up in
    let here : Decides setup inst (cores.view_of h.was) (decision.Short lacking) = subst (λ (v : View). Decides setup inst v (decision.Short lacking)) (sym (view_up setup old.me old h.was own up)) decided in
    let wanted : Decides setup inst (cores.view_of h.was) (decision.Short noted) = subst (λ (l : Lacking). Decides setup inst (cores.view_of h.was) (decision.Short l)) (sym same) here in
    let was_own : IsReplica setup h.was.me h.was = (committed_up setup old.me old h.was own up).1.own in
    let answered : HasAnswered setup inst h.was (outcomes.Short lacking) h.has = subst (λ (l : Lacking). HasAnswered setup inst h.was (outcomes.Short l) h.has) same (h.answered setup inst was_own wanted) in
    has_stepped setup (asks.Do inst) heard.Nothing old stamp (outcomes.Short lacking) None old.kept (states.Up h.has) (record { entry = entry; sent = None }) new
    (short_step setup inst lacking old stamp h.was h.has own up here answered is)
    (ap (λ (e : StepEntry). let a : Answer = record { entry = e; sent = None } in a) entry_is)
    (h.changed.becomes ∙ ap (λ (c : Course). let n : Course = record c { state = states.Up h.has } in n) mid_is)
