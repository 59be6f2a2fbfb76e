-- Steps that keep nothing.
use Rattle.std.proofs.Common.{◌≡◌, ◌≢◌, inl, ℕ, ◌+◌, List, [], ◌∷◌, ◌++◌, max, refl, sym, ap, subst, ◌∙◌, arith}
use Rattle.std.specs.Prelude.{Option, Some, None, Result, Ok, Err, min}
use Rattle.std.specs.Result.{IsErr}
use Rattle.std.proofs.lemmas.List.{append-nil}
use Rattle.spec_model.specs.declared.plan.Setup.{Setup}
use Rattle.spec_model.specs.declared.clause.Broken.{Broken}
use Rattle.spec_model.specs.declared.instance.Inst.{Inst}
use Rattle.run_model.specs.declared.batch.Batch.{Batch}
use Rattle.run_model.specs.declared.step.Ask.{Ask}
use Rattle.run_model.specs.declared.step.Ask.TheVariants as asks
use Rattle.run_model.specs.declared.step.Outcome.{Outcome}
use Rattle.run_model.specs.declared.step.Outcome.TheVariants as outcomes
use Rattle.run_model.specs.declared.step.StepEntry.{StepEntry}
use Rattle.run_model.specs.Locals.{Local}
use Rattle.run_model.specs.Logs.{Logs}
use Rattle.run_model.specs.Steps.{Answers, AnswersDown, AnswersUp, Requested, Requests, next_stamp}
use Rattle.run_model.specs.Worlds.{Down, Running, Sending, Standing, Up}
use Rattle.message_laws.specs.Views.{View}
use Rattle.replica_core.specs.Decisions.{Decides, lacking_here}
use Rattle.replica_core.specs.declared.decision.Decision.TheVariants as decision
use Rattle.replica_course.specs.Courses as courses
use Rattle.replica_course.specs.Courses.{IsAsBefore, IsCourse, local_of, running_in, running_of, standing_of, view_of}
use Rattle.replica_course.specs.Steps.{IsCounted, IsWhole, SentFits, heard_of, last_stamp, sent_by}
use Rattle.replica_course.specs.Parts.{HasEnded, RestsDown, RestsUp, entry_of, stamp_of}
use Rattle.replica_course.specs.declared.answer.Answer.{Answer}
use Rattle.replica_course.specs.declared.course.Course.{Course}
use Rattle.replica_course.specs.declared.course.State.{State}
use Rattle.replica_course.specs.declared.course.State.TheVariants as states
use Rattle.replica_course.specs.declared.heard.Heard.{Heard}
use Rattle.replica_course.specs.declared.heard.Heard.TheVariants as heard
use Rattle.replica_course.proofs.Stepping.{IsStep, Stays, later, stays_step}

-- ---- as before

pub as_before : (setup : Setup) (old new : Course) → IsCourse setup old.me old → new ≡ old → IsCourse setup old.me new × IsAsBefore old new
as_before setup old new own is = (
  subst (IsCourse setup old.me) (sym is) own,
  record { me = ap (λ (c : Course). c.me) is; first_up = ap (λ (c : Course). c.first_up) is; entries = ap (λ (c : Course). c.entries) is; stands = λ replicas sendings. ap (local_of replicas sendings) is },
)

-- without memory it is as before
pub ended_err : {E : Type 0} (setup : Setup) (ask : Ask) (h : Heard) (old new : Course) (result : Result Answer E) → IsErr result → IsCourse setup old.me new × IsAsBefore old new → HasEnded setup ask h old new result
ended_err setup ask h old new (Ok answer) wrong before = absurd cc
ended_err setup ask h old new (Err e) err before = before

-- ---- stamps

pub next_is : (last me : ℕ) (h : Heard) → max last (stamp_of h) + 1 ≡ next_stamp last (heard_of me h)
next_is last me heard.Nothing = omega arith
next_is last me (heard.Unsent stamp) = refl
next_is last me (heard.Message message) = refl

pub stamp_next : (last me stamp : ℕ) (h : Heard) → stamp ≡ min (max last (stamp_of h) + 1) last_stamp → stamp ≡ min (next_stamp last (heard_of me h)) last_stamp
stamp_next last me stamp h is = is ∙ ap (λ n. min n last_stamp) (next_is last me h)

-- ---- a step that sends nothing

-- how it steps with these sendings, if it sends none
unsent : (setup : Setup) (me : ℕ) (heard : Option Sending) (old : Local) (entry : StepEntry) (sendings : List Sending) (new : Course)
    → Stays setup me heard old entry (local_of setup.replicas sendings new) → Stays setup me heard old entry (local_of setup.replicas (sendings ++ []) new)
unsent setup me heard old entry sendings new = subst (λ (l : List Sending). Stays setup me heard old entry (local_of setup.replicas l new)) (sym (append-nil sendings))

-- it answers so, and stays as it is
pub at_rest : (setup : Setup) (heard : Option Sending) (old : Course) (stamp : ℕ) (ask : Ask) (outcome : Outcome) (sendings : List Sending) → let l = local_of setup.replicas sendings old in Answers setup l.known old.me l.standing.running heard [] [] stamp ask l.standing outcome l.standing
    → Stays setup old.me heard l (entry_of old stamp ask outcome) (local_of setup.replicas (sendings ++ []) (later old (entry_of old stamp ask outcome) old.kept old.state))
at_rest setup heard old stamp ask outcome sendings answers =
    let l : Local = local_of setup.replicas sendings old in
    let entry : StepEntry = entry_of old stamp ask outcome in
    unsent setup old.me heard l entry sendings (later old entry old.kept old.state) (record { admitted = []; after = l.standing; log = refl; kept = refl; answers = answers; becomes = refl })

-- ---- up

rests_up : (setup : Setup) (logs : Logs) (me stamp : ℕ) (ask : Ask) (h : Heard) (outcome : Outcome) (p : Standing) → RestsUp ask h outcome → AnswersUp setup logs me (heard_of me h) [] [] stamp ask p outcome p
rests_up setup logs me stamp (asks.Do inst) heard.Nothing outcome p rests = absurd rests
rests_up setup logs me stamp (asks.Do inst) (heard.Unsent at) outcome p rests = absurd rests
rests_up setup logs me stamp (asks.Do inst) (heard.Message message) outcome p rests = absurd rests
rests_up setup logs me stamp (asks.Send to number) heard.Nothing outcome p rests = absurd rests
rests_up setup logs me stamp (asks.Send to number) (heard.Unsent at) outcome p rests = absurd rests
rests_up setup logs me stamp (asks.Send to number) (heard.Message message) outcome p rests = absurd rests
rests_up setup logs me stamp (asks.Take from None) heard.Nothing outcome p rests = record { would = outcome; draft = p; drafts = (refl, rests, refl); ends = inl (refl, refl, refl) }
rests_up setup logs me stamp (asks.Take from None) (heard.Unsent at) outcome p rests = absurd rests
rests_up setup logs me stamp (asks.Take from None) (heard.Message message) outcome p rests = absurd rests
rests_up setup logs me stamp (asks.Take from (Some number)) heard.Nothing outcome p rests = absurd rests
rests_up setup logs me stamp (asks.Take from (Some number)) (heard.Unsent at) outcome p rests = record { would = outcome; draft = p; drafts = (refl, rests, refl); ends = inl (refl, refl, refl) }
rests_up setup logs me stamp (asks.Take from (Some number)) (heard.Message message) outcome p rests = absurd rests
rests_up setup logs me stamp asks.Crash heard.Nothing outcome p rests = absurd rests
rests_up setup logs me stamp asks.Crash (heard.Unsent at) outcome p rests = absurd rests
rests_up setup logs me stamp asks.Crash (heard.Message message) outcome p rests = absurd rests
rests_up setup logs me stamp asks.Recover heard.Nothing outcome p rests = record { would = outcome; draft = p; drafts = (refl, rests, refl); ends = inl (refl, refl, refl) }
rests_up setup logs me stamp asks.Recover (heard.Unsent at) outcome p rests = absurd rests
rests_up setup logs me stamp asks.Recover (heard.Message message) outcome p rests = absurd rests

-- what is asked then sends nothing
rests_unsent : (ask : Ask) (h : Heard) (outcome : Outcome) (stamp : ℕ) → RestsUp ask h outcome → [] ≡ sent_by ask stamp None
rests_unsent (asks.Do inst) h outcome stamp rests = refl
rests_unsent (asks.Send to number) heard.Nothing outcome stamp rests = absurd rests
rests_unsent (asks.Send to number) (heard.Unsent at) outcome stamp rests = absurd rests
rests_unsent (asks.Send to number) (heard.Message message) outcome stamp rests = absurd rests
rests_unsent (asks.Take from number) h outcome stamp rests = refl
rests_unsent asks.Crash h outcome stamp rests = refl
rests_unsent asks.Recover h outcome stamp rests = refl

none_fits : (setup : Setup) (me : ℕ) (ask : Ask) (stamp : ℕ) → SentFits setup me ask stamp None
none_fits setup me (asks.Do inst) stamp = tt
none_fits setup me (asks.Send to number) stamp = tt
none_fits setup me (asks.Take from number) stamp = tt
none_fits setup me asks.Crash stamp = tt
none_fits setup me asks.Recover stamp = tt

-- a step that keeps nothing and sends nothing
pub still : (setup : Setup) (ask : Ask) (h : Heard) (old : Course) (stamp : ℕ) (outcome : Outcome) (state : State) → IsCourse setup old.me old → courses.IsState setup old.me old.kept state → stamp ≡ min (max old.stamp (stamp_of h) + 1) last_stamp
    → ((sendings : List Sending) → IsCounted ask sendings → IsWhole setup old.me old h → Stays setup old.me (heard_of old.me h) (local_of setup.replicas sendings old) (entry_of old stamp ask outcome) (local_of setup.replicas (sendings ++ sent_by ask stamp None) (later old (entry_of old stamp ask outcome) old.kept state)))
    → IsStep setup ask h old stamp outcome None old.kept state
still setup ask h old stamp outcome state own here is stays = record {
  own = own;
  stamp_is = stamp_next old.stamp old.me stamp h is;
  committed = own.committed;
  few = omega (arith, own.few_kept);
  here = here;
  sent = none_fits setup old.me ask stamp;
  step = λ sendings counted whole next. stays_step setup old.me (heard_of old.me h) (local_of setup.replicas sendings old) (entry_of old stamp ask outcome) (local_of setup.replicas (sendings ++ sent_by ask stamp None) (later old (entry_of old stamp ask outcome) old.kept state)) refl next refl (stays sendings counted whole);
}

pub rested_up : (setup : Setup) (ask : Ask) (h : Heard) (old : Course) (stamp : ℕ) (outcome : Outcome) → IsCourse setup old.me old → running_of old ≡ Up → RestsUp ask h outcome → stamp ≡ min (max old.stamp (stamp_of h) + 1) last_stamp → IsStep setup ask h old stamp outcome None old.kept old.state
rested_up setup ask h old stamp outcome own up rests is = still setup ask h old stamp outcome old.state own own.state is (λ sendings counted whole.
    let l : Local = local_of setup.replicas sendings old in
    let entry : StepEntry = entry_of old stamp ask outcome in
    let answers : Answers setup l.known old.me (running_of old) (heard_of old.me h) [] [] stamp ask l.standing outcome l.standing =
    subst (λ (r : Running). Answers setup l.known old.me r (heard_of old.me h) [] [] stamp ask l.standing outcome l.standing) (sym up) (rests_up setup l.known old.me stamp ask h outcome l.standing rests) in
    subst (λ (s : List Sending). Stays setup old.me (heard_of old.me h) l entry (local_of setup.replicas (sendings ++ s) (later old entry old.kept old.state))) (rests_unsent ask h outcome stamp rests) (at_rest setup (heard_of old.me h) old stamp ask outcome sendings answers))

-- ---- down

pub pending_of : (state : State) → running_in state ≢ Up → (pending : Option Batch) × (state ≡ states.Down pending)
pending_of (states.Up r) down = absurd (down refl)
pending_of (states.Down pending) down = (pending, refl)

rests_down : (setup : Setup) (old : Course) (stamp : ℕ) (ask : Ask) (pending : Option Batch) (sendings : List Sending) → running_of old ≡ Down pending → RestsDown old.me ask → IsCounted ask sendings
    → Stays setup old.me None (local_of setup.replicas sendings old) (entry_of old stamp ask outcomes.Down) (local_of setup.replicas (sendings ++ sent_by ask stamp None) (later old (entry_of old stamp ask outcomes.Down) old.kept old.state))
rests_down setup old stamp ask pending sendings down rests counted = by_ask ask rests counted
  where
    l : Local
    l = local_of setup.replicas sendings old

    answers : (ask : Ask) (p : Standing) → AnswersDown setup.replicas old.me pending [] stamp ask l.standing outcomes.Down p → Answers setup l.known old.me (running_of old) None [] [] stamp ask l.standing outcomes.Down p
    answers ask p h = subst (λ (r : Running). Answers setup l.known old.me r None [] [] stamp ask l.standing outcomes.Down p) (sym down) (refl, h)

    by_ask : (ask : Ask) → RestsDown old.me ask → IsCounted ask sendings
        → Stays setup old.me None l (entry_of old stamp ask outcomes.Down) (local_of setup.replicas (sendings ++ sent_by ask stamp None) (later old (entry_of old stamp ask outcomes.Down) old.kept old.state))
    by_ask (asks.Do inst) rests counted = at_rest setup None old stamp (asks.Do inst) outcomes.Down sendings (answers (asks.Do inst) l.standing (refl, refl, refl))
    by_ask (asks.Send to None) rests counted = at_rest setup None old stamp (asks.Send to None) outcomes.Down sendings (answers (asks.Send to None) l.standing (refl, refl, refl))
    by_ask (asks.Send to (Some number)) rests counted =
        let sent : Sending = record { to = to; stamp = stamp; message = None } in
        let p : Standing = record l.standing { sendings = sendings ++ sent ∷ [] } in
        record { admitted = []; after = p; log = refl; kept = refl; answers = answers (asks.Send to (Some number)) p (refl, record { other = rests; counted = counted; outcome_is = refl; becomes = refl }); becomes = refl }
    by_ask (asks.Take from number) rests counted = at_rest setup None old stamp (asks.Take from number) outcomes.Down sendings (answers (asks.Take from number) l.standing (refl, refl, refl))
    by_ask asks.Crash rests counted = at_rest setup None old stamp asks.Crash outcomes.Down sendings (answers asks.Crash l.standing (refl, refl, refl))
    by_ask asks.Recover rests counted = absurd rests

pub rested_down : (setup : Setup) (ask : Ask) (old : Course) (stamp : ℕ) → IsCourse setup old.me old → running_of old ≢ Up → RestsDown old.me ask → stamp ≡ min (max old.stamp 0 + 1) last_stamp → IsStep setup ask heard.Nothing old stamp outcomes.Down None old.kept old.state
rested_down setup ask old stamp own down rests is =
    let pending = pending_of old.state down in
    still setup ask heard.Nothing old stamp outcomes.Down old.state own own.state is (λ sendings counted whole. rests_down setup old stamp ask pending.0 sendings (ap running_in pending.1) rests counted)

-- ---- requests that come to nothing

pub refused : (setup : Setup) (inst : Inst) (broken : Broken) (old : Course) (stamp : ℕ) → IsCourse setup old.me old → running_of old ≡ Up → Decides setup inst (view_of setup.replicas old) (decision.Breaks broken) → stamp ≡ min (max old.stamp 0 + 1) last_stamp
    → IsStep setup (asks.Do inst) heard.Nothing old stamp (outcomes.Breaks broken) None old.kept old.state
refused setup inst broken old stamp own up decided is = still setup (asks.Do inst) heard.Nothing old stamp (outcomes.Breaks broken) old.state own own.state is (λ sendings counted whole.
    let l : Local = local_of setup.replicas sendings old in
    let v : View = view_of setup.replicas old in
    let requests : Requests setup l.known old.me inst l.standing (outcomes.Breaks broken) l.standing =
    subst (λ (b : Option Broken). Requested old.me inst b (lacking_here setup inst v) l.standing (outcomes.Breaks broken) l.standing) (sym decided) (refl, refl) in
    let answers : AnswersUp setup l.known old.me None [] [] stamp (asks.Do inst) l.standing (outcomes.Breaks broken) l.standing =
    record { would = outcomes.Breaks broken; draft = l.standing; drafts = (refl, requests); ends = inl (refl, refl, refl) } in
    at_rest setup None old stamp (asks.Do inst) (outcomes.Breaks broken) sendings
    (subst (λ (r : Running). Answers setup l.known old.me r None [] [] stamp (asks.Do inst) l.standing (outcomes.Breaks broken) l.standing) (sym up) answers))
