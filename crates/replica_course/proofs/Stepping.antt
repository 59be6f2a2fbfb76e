-- Steps of a replica by itself: those that keep nothing, and those that keep a batch.
use Rattle.std.proofs.Common.{◌≡◌, ◌≢◌, ℕ, ◌+◌, ◌<◌, ◌≤◌, ◌^◌, List, [], ◌∷◌, ◌++◌, length, drop, refl, sym, ap, subst, ◌∙◌, arith}
use Rattle.std.specs.Prelude.{Option, min, slice_set}
use Rattle.std.proofs.lemmas.List.{append-nil, length_push}
use Rattle.std.proofs.Math.Seq.{drop-length}
use Rattle.spec_model.specs.declared.plan.Setup.{Setup}
use Rattle.spec_model.specs.declared.log.LogItem.{LogItem}
use Rattle.run_model.specs.declared.batch.Batch.{Batch}
use Rattle.run_model.specs.declared.message.Message.{Message}
use Rattle.run_model.specs.declared.step.Ask.{Ask}
use Rattle.run_model.specs.declared.step.Outcome.{Outcome}
use Rattle.run_model.specs.declared.step.StepEntry.{StepEntry}
use Rattle.run_model.specs.Locals.{Local, LocalSteps}
use Rattle.run_model.specs.Logs.{log_at, with_all}
use Rattle.run_model.specs.Steps.{Answers, next_stamp}
use Rattle.run_model.specs.Worlds.{Sending, Standing, batch_of, items_between}
use Rattle.replica_core.specs.Recovered.{AreCommitted}
use Rattle.replica_core.proofs.Items.{set_back}
use Rattle.replica_course.specs.Courses.{IsCourse, IsState, local_of}
use Rattle.replica_course.specs.Steps.{CourseSteps, IsCounted, IsWhole, SentFits, heard_of, last_stamp, sent_by}
use Rattle.replica_course.specs.Parts.{entry_of, with_entry}
use Rattle.replica_course.specs.declared.answer.Answer.{Answer}
use Rattle.replica_course.specs.declared.course.Course.{Course}
use Rattle.replica_course.specs.declared.course.State.{State}
use Rattle.replica_course.specs.declared.heard.Heard.{Heard}

-- ---- the step of a replica by itself

-- an answer of a replica that stands so, to a step that heard this, which keeps no batch, and how it stands then
pub record Stays (setup : Setup) (me : ℕ) (heard : Option Sending) (old : Local) (entry : StepEntry) (new : Local) : Type 0 where
  pub admitted : List LogItem
  pub after : Standing
  pub log : after.log ≡ old.standing.log
  pub kept : after.kept ≡ old.standing.kept
  pub answers : Answers setup (with_all admitted old.known) me old.standing.running heard admitted [] entry.stamp entry.ask old.standing entry.outcome after
  pub becomes : new ≡ record { standing = record after { stamp = entry.stamp }; known = old.known }

-- or which keeps this one
pub record Gains (setup : Setup) (me : ℕ) (heard : Option Sending) (old : Local) (entry : StepEntry) (batch : Batch) (new : Local) : Type 0 where
  pub admitted : List LogItem
  pub applied : List LogItem
  pub after : Standing
  pub items : items_between applied old.standing after ≡ batch.items
  pub some : batch.items ≢ []
  pub kept : after.kept ≡ old.standing.kept
  pub answers : Answers setup (with_all admitted old.known) me old.standing.running heard admitted applied entry.stamp entry.ask old.standing entry.outcome after
  pub becomes : new ≡ record { standing = record after { stamp = entry.stamp; kept = old.standing.kept ++ batch ∷ [] }; known = slice_set (with_all applied old.known) me after.log }

-- the batch of these items
pub batch_is : (items : List LogItem) (batch : Batch) → items ≡ batch.items → batch.items ≢ [] → batch_of items ≡ batch ∷ []
batch_is [] batch is some = absurd (some (sym is))
batch_is (x ∷ items) batch is some = ap (λ (l : List LogItem). let b : Batch = record { items = l } in b ∷ []) is

pub stays_step : (setup : Setup) (me : ℕ) (heard : Option Sending) (old : Local) (entry : StepEntry) (new : Local) → entry.replica ≡ me → entry.stamp ≡ next_stamp old.standing.stamp heard → log_at old.known me ≡ old.standing.log
    → Stays setup me heard old entry new → LocalSteps setup me heard old entry new
stays_step setup me heard old entry new replica stamp log h =
    let none : drop (length old.standing.log) h.after.log ≡ [] = ap (drop (length old.standing.log)) h.log ∙ drop-length old.standing.log in
    let kept : h.after.kept ≡ old.standing.kept ++ batch_of (items_between [] old.standing h.after) = h.kept ∙ sym (append-nil old.standing.kept) ∙ ap (λ (l : List LogItem). old.standing.kept ++ batch_of l) (sym none) in
    let known : old.known ≡ slice_set old.known me h.after.log = sym (ap (slice_set old.known me) (h.log ∙ sym log) ∙ set_back old.known me) in
    subst (LocalSteps setup me heard old entry) (sym h.becomes) (record {
      admitted = h.admitted;
      applied = [];
      steps = record { replica = replica; stamp = stamp; after = h.after; answers = h.answers; becomes = ap (λ (k : List Batch). let p : Standing = record h.after { stamp = entry.stamp; kept = k } in p) kept };
      known = known;
    })

pub gains_step : (setup : Setup) (me : ℕ) (heard : Option Sending) (old : Local) (entry : StepEntry) (batch : Batch) (new : Local) → entry.replica ≡ me → entry.stamp ≡ next_stamp old.standing.stamp heard
    → Gains setup me heard old entry batch new → LocalSteps setup me heard old entry new
gains_step setup me heard old entry batch new replica stamp h =
    let one : batch_of (items_between h.applied old.standing h.after) ≡ batch ∷ [] = batch_is (items_between h.applied old.standing h.after) batch h.items h.some in
    subst (LocalSteps setup me heard old entry) (sym h.becomes) (record {
      admitted = h.admitted;
      applied = h.applied;
      steps = record { replica = replica; stamp = stamp; after = h.after; answers = h.answers; becomes = ap (λ (l : List Batch). let p : Standing = record h.after { stamp = entry.stamp; kept = old.standing.kept ++ l } in p) (sym one) };
      known = refl;
    })

-- ---- the step of its course

-- a stamp that has room
pub stamp_is : (n stamp : ℕ) → stamp ≡ min n last_stamp → n < 2 ^ 64 → stamp ≡ n
stamp_is n stamp is small = omega (arith, is, small)

-- the course with one entry more, these batches kept and this state
abbrev pub later : Course → StepEntry → List Batch → State → Course
later c entry kept state = record c { entries = c.entries ++ entry ∷ []; stamp = entry.stamp; kept = kept; state = state }

pub later_own : (setup : Setup) (c : Course) (entry : StepEntry) (kept : List Batch) (state : State) → IsCourse setup c.me c → AreCommitted setup c.me kept → length kept ≤ length c.entries + 1 → IsState setup c.me kept state → IsCourse setup c.me (later c entry kept state)
later_own setup c entry kept state own committed few here = record {
  me_is = refl;
  within = own.within;
  few = own.few;
  fits = own.fits;
  committed = committed;
  few_kept = omega (arith, few, length_push c.entries entry);
  state = here;
}

-- what it answers and sends, and how it stands then
pub record IsStep (setup : Setup) (ask : Ask) (h : Heard) (old : Course) (stamp : ℕ) (outcome : Outcome) (message : Option Message) (kept : List Batch) (state : State) : Type 0 where
  pub own : IsCourse setup old.me old
  pub stamp_is : stamp ≡ min (next_stamp old.stamp (heard_of old.me h)) last_stamp
  pub committed : AreCommitted setup old.me kept
  pub few : length kept ≤ length old.entries + 1
  pub here : IsState setup old.me kept state
  pub sent : SentFits setup old.me ask stamp message
  pub step : (sendings : List Sending) → IsCounted ask sendings → IsWhole setup old.me old h → stamp ≡ next_stamp old.stamp (heard_of old.me h)
      → LocalSteps setup old.me (heard_of old.me h) (local_of setup.replicas sendings old) (entry_of old stamp ask outcome) (local_of setup.replicas (sendings ++ sent_by ask stamp message) (later old (entry_of old stamp ask outcome) kept state))

-- so it has taken a step
pub has_stepped : (setup : Setup) (ask : Ask) (h : Heard) (old : Course) (stamp : ℕ) (outcome : Outcome) (message : Option Message) (kept : List Batch) (state : State) (answer : Answer) (new : Course) → IsStep setup ask h old stamp outcome message kept state
    → answer ≡ record { entry = entry_of old stamp ask outcome; sent = message } → new ≡ later old (entry_of old stamp ask outcome) kept state → IsCourse setup old.me new × CourseSteps setup ask h old answer new
has_stepped setup ask h old stamp outcome message kept state answer new is answer_is new_is =
    let entry : StepEntry = entry_of old stamp ask outcome in
    let end : Course = later old entry kept state in
    let given : Answer = record { entry = entry; sent = message } in
    let steps : CourseSteps setup ask h old given end = record {
      asked = refl;
      replica = refl;
      stamp = is.stamp_is;
      stamp_kept = refl;
      entries = refl;
      first_up = refl;
      sent = is.sent;
      step = λ sendings counted whole room. is.step sendings counted whole (stamp_is (next_stamp old.stamp (heard_of old.me h)) stamp is.stamp_is room);
    } in (
      subst (IsCourse setup old.me) (sym new_is) (later_own setup old entry kept state is.own is.committed is.few is.here),
      subst (λ (c : Course). CourseSteps setup ask h old answer c) (sym new_is) (subst (λ (a : Answer). CourseSteps setup ask h old a end) (sym answer_is) steps),
    )

-- where only its entry is new
pub has_rested : (setup : Setup) (ask : Ask) (h : Heard) (old : Course) (stamp : ℕ) (outcome : Outcome) (message : Option Message) (entry : StepEntry) (new : Course) → IsStep setup ask h old stamp outcome message old.kept old.state
    → entry ≡ entry_of old stamp ask outcome → new ≡ with_entry (entry_of old stamp ask outcome) old → IsCourse setup old.me new × CourseSteps setup ask h old (record { entry = entry; sent = message }) new
has_rested setup ask h old stamp outcome message entry new is entry_is new_is =
    has_stepped setup ask h old stamp outcome message old.kept old.state (record { entry = entry; sent = message }) new is (ap (λ (e : StepEntry). let a : Answer = record { entry = e; sent = message } in a) entry_is) new_is
