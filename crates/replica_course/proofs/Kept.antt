-- Steps whose batch is kept, or pending.
use Rattle.std.proofs.Common.{◌≡◌, ◌≢◌, inl, inr, ℕ, ◌+◌, List, [], ◌∷◌, ◌++◌, length, drop, max, refl, sym, ap, subst, ◌∙◌, arith}
use Rattle.std.specs.Prelude.{Option, Some, None, min, slice_set}
use Rattle.std.proofs.lemmas.List.{append-nil, length_push}
use Rattle.spec_model.specs.declared.plan.Setup.{Setup}
use Rattle.spec_model.specs.declared.clause.Broken.{Broken}
use Rattle.spec_model.specs.declared.instance.Inst.{Inst}
use Rattle.spec_model.specs.declared.right.Lacking.{Lacking}
use Rattle.spec_model.specs.declared.right.Want.{Want}
use Rattle.spec_model.specs.declared.log.Body.TheVariants as body
use Rattle.spec_model.specs.declared.log.LogItem.{LogItem}
use Rattle.spec_model.specs.Fits.{InstFits}
use Rattle.run_model.specs.declared.batch.Batch.{Batch}
use Rattle.run_model.specs.declared.step.Ask.{Ask}
use Rattle.run_model.specs.declared.step.Ask.TheVariants as asks
use Rattle.run_model.specs.declared.step.Outcome.{Outcome}
use Rattle.run_model.specs.declared.step.Outcome.TheVariants as outcomes
use Rattle.run_model.specs.declared.step.StepEntry.{StepEntry}
use Rattle.run_model.specs.Locals.{Local, LocalSteps}
use Rattle.run_model.specs.Logs.{Logs, with_all}
use Rattle.run_model.specs.Steps.{Answers, AnswersUp, Drafts, Requested, Requests}
use Rattle.run_model.specs.Worlds.{Running, Sending, Standing, Up, items_between, logged, stopped}
use Rattle.message_laws.specs.Views.{View, item_of}
use Rattle.replica_core.specs.Decisions.{Decides, IsDecided, StaysSame, broken_here, lacking_here}
use Rattle.replica_core.specs.declared.decision.Decision.TheVariants as decision
use Rattle.replica_core.specs.Recovered.{AreCommitted, HasCommitted}
use Rattle.replica_core.specs.Replicas.{HasAnswered, HasRoom, IsReplica, KnowsOwn, known_to, own_log}
use Rattle.replica_core.specs.Replicas as cores
use Rattle.replica_core.specs.declared.replica.Replica.{Replica}
use Rattle.replica_core.proofs.Lists.{back_of}
use Rattle.replica_course.specs.Courses.{IsAsBefore, IsCourse, local_of, running_in, running_of, told_in, view_of, wants_in}
use Rattle.replica_course.specs.Parts.{HasStayed, entry_of, stamp_of}
use Rattle.replica_course.specs.Steps.{IsWhole, SentFits, heard_of, last_stamp, sent_by}
use Rattle.replica_course.specs.declared.course.Course.{Course}
use Rattle.replica_course.specs.declared.course.State.{State}
use Rattle.replica_course.specs.declared.course.State.TheVariants as states
use Rattle.replica_course.specs.declared.heard.Heard.{Heard}
use Rattle.replica_course.specs.declared.heard.Heard.TheVariants as heard
use Rattle.replica_course.proofs.Seen.{committed_up}
use Rattle.replica_course.proofs.Rested.{stamp_next, still}
use Rattle.replica_course.proofs.Stepping.{Gains, IsStep, Stays, batch_is, gains_step, later}
use Rattle.replica_course.proofs.Upright.{committed_still, local_is, local_seen, local_up}

-- ---- the same but for room

pub stays_as_seen : (setup : Setup) (old : Course) (was has : Replica) → IsCourse setup old.me old → old.state ≡ states.Up was → StaysSame setup was has → (has.me ≡ old.me) × HasCommitted setup old.kept has
stays_as_seen setup old was has own up same =
    let here = committed_up setup old.me old was own up in
    (ap (λ (v : View). v.me) same.view ∙ here.0, committed_still setup old.kept was has here.1 same.own (ap (λ (v : View). v.known) same.view))

-- with other room it is as before
pub stayed_before : (setup : Setup) (old new : Course) → IsCourse setup old.me old → HasStayed setup old new → IsCourse setup old.me new × IsAsBefore old new
stayed_before setup old new own h =
    let seen = stays_as_seen setup old h.was h.has own h.changed.up h.same in
    let end : Course = record old { state = states.Up h.has } in
    let wants : (old.state ≡ states.Up h.was) → (replicas : ℕ) (sendings : List Sending) → local_of replicas sendings end ≡ local_of replicas sendings old = λ up replicas sendings.
    let l : Local = local_of replicas sendings old in
    let by : List Want → List (List ℕ) → Running → Local = λ w t r. record l { standing = record l.standing { wants = w; told = t; running = r } } in
    ap (λ (w : List Want). by w h.has.told Up) h.same.wants ∙ ap (λ (t : List (List ℕ)). by h.was.wants t Up) h.same.told ∙ ap (λ (s : State). by (wants_in s) (told_in replicas s) (running_in s)) (sym up) in (
      subst (IsCourse setup old.me) (sym h.changed.becomes) (record { me_is = refl; within = own.within; few = own.few; fits = own.fits; committed = own.committed; few_kept = own.few_kept; state = seen }),
      subst (IsAsBefore old) (sym h.changed.becomes) (record { me = refl; first_up = refl; entries = refl; stands = wants h.changed.up }),
    )

-- nothing is changed
pub stayed_same : (setup : Setup) (old : Course) (r : Replica) → IsCourse setup old.me old → old.state ≡ states.Up r → HasStayed setup old old
stayed_same setup old r own up = record {
  was = r;
  has = r;
  changed = record { up = up; becomes = ap (λ (s : State). let c : Course = record old { state = s } in c) up };
  same = record {
    own = (committed_up setup old.me old r own up).1.own;
    view = refl;
    wants = refl;
    told = refl;
    room = λ n h. h;
    answered = λ inst outcome last h. h;
    took = λ message outcome last h. h;
  };
}

-- ---- pending

-- of a step that would lead to this draft, the batch is pending
pub pending_step : (setup : Setup) (ask : Ask) (h : Heard) (old : Course) (stamp : ℕ) (batch : Batch) → IsCourse setup old.me old → running_of old ≡ Up → IsDecided setup (view_of setup.replicas old) batch → batch.items ≢ [] → stamp ≡ min (max old.stamp (stamp_of h) + 1) last_stamp → [] ≡ sent_by ask stamp None
    → ((sendings : List Sending) → IsWhole setup old.me old h → let l = local_of setup.replicas sendings old in (admitted : List LogItem) × (would : Outcome) × (draft : Standing) × Drafts setup (with_all admitted l.known) old.me (heard_of old.me h) admitted stamp ask l.standing would draft × (items_between admitted l.standing draft ≡ batch.items))
    → IsStep setup ask h old stamp outcomes.DiskBroken None old.kept (states.Down (Some batch))
pending_step setup ask h old stamp batch own up decided some is none drafts = still setup ask h old stamp outcomes.DiskBroken (states.Down (Some batch)) own (decided, some) is (λ sendings counted whole.
    let l : Local = local_of setup.replicas sendings old in
    let entry : StepEntry = entry_of old stamp ask outcomes.DiskBroken in
    let end : Course = later old entry old.kept (states.Down (Some batch)) in
    let d = drafts sendings whole in
    let after : Standing = stopped setup.replicas (Some batch) l.standing in
    let answers : AnswersUp setup (with_all d.0 l.known) old.me (heard_of old.me h) d.0 [] stamp ask l.standing outcomes.DiskBroken after =
    record { would = d.1; draft = d.2; drafts = d.3; ends = inr (batch, batch_is (items_between d.0 l.standing d.2) batch d.4 some, refl, refl, refl) } in
    let stays : Stays setup old.me (heard_of old.me h) l entry (local_of setup.replicas sendings end) = record {
      admitted = d.0;
      after = after;
      log = refl;
      kept = refl;
      answers = subst (λ (r : Running). Answers setup (with_all d.0 l.known) old.me r (heard_of old.me h) d.0 [] stamp ask l.standing outcomes.DiskBroken after) (sym up) answers;
      becomes = refl;
    } in
    subst (λ (s : List Sending). Stays setup old.me (heard_of old.me h) l entry (local_of setup.replicas (sendings ++ s) end)) none
    (subst (λ (s : List Sending). Stays setup old.me (heard_of old.me h) l entry (local_of setup.replicas s end)) (sym (append-nil sendings)) stays))

-- the act of a request
pub act_draft : (setup : Setup) (inst : Inst) (batch : Batch) (old : Course) (stamp : ℕ) (sendings : List Sending) → Decides setup inst (view_of setup.replicas old) (decision.Act batch)
    → let l = local_of setup.replicas sendings old in (admitted : List LogItem) × (would : Outcome) × (draft : Standing) × Drafts setup (with_all admitted l.known) old.me None admitted stamp (asks.Do inst) l.standing would draft × (items_between admitted l.standing draft ≡ batch.items)
act_draft setup inst batch old stamp sendings decided =
    let l : Local = local_of setup.replicas sendings old in
    let v : View = view_of setup.replicas old in
    let p : Standing = l.standing in
    let draft : Standing = logged old.me (body.Act inst) p in
    let done : Outcome = outcomes.Done (length p.log) in
    let one = subst (λ (b : Option Broken). Requested old.me inst b None p done draft) (sym decided.2) (refl, refl) in
    let requests : Requests setup l.known old.me inst p done draft =
    subst (λ (k : Option Lacking). Requested old.me inst (broken_here setup inst v) k p done draft) (sym decided.0) one in
    ([], done, draft, (refl, requests), back_of p.log (item_of v (body.Act inst) ∷ []) (length p.log) refl ∙ sym decided.1)

pub act_pending : (setup : Setup) (inst : Inst) (batch : Batch) (old : Course) (stamp : ℕ) → IsCourse setup old.me old → running_of old ≡ Up → InstFits setup.spec inst → Decides setup inst (view_of setup.replicas old) (decision.Act batch) → stamp ≡ min (max old.stamp 0 + 1) last_stamp
    → IsStep setup (asks.Do inst) heard.Nothing old stamp outcomes.DiskBroken None old.kept (states.Down (Some batch))
act_pending setup inst batch old stamp own up fits decided is =
    pending_step setup (asks.Do inst) heard.Nothing old stamp batch own up (inl (inst, fits, decided)) (λ none. let wrong = sym none ∙ decided.1 in absurd cc) is refl (λ sendings whole. act_draft setup inst batch old stamp sendings decided)

-- ---- kept

-- of a step that gains this batch, by a replica that has committed that too
pub kept_step : (setup : Setup) (ask : Ask) (h : Heard) (old : Course) (stamp : ℕ) (outcome : Outcome) (batch : Batch) (has : Replica) → IsCourse setup old.me old → has.me ≡ old.me → HasCommitted setup (old.kept ++ batch ∷ []) has → SentFits setup old.me ask stamp None → [] ≡ sent_by ask stamp None
    → stamp ≡ min (max old.stamp (stamp_of h) + 1) last_stamp
    → ((sendings : List Sending) → IsWhole setup old.me old h → Gains setup old.me (heard_of old.me h) (local_of setup.replicas sendings old) (entry_of old stamp ask outcome) batch (local_up stamp sendings (old.kept ++ batch ∷ []) has))
    → IsStep setup ask h old stamp outcome None (old.kept ++ batch ∷ []) (states.Up has)
kept_step setup ask h old stamp outcome batch has own me committed sent none is gains =
    let entry : StepEntry = entry_of old stamp ask outcome in
    let kept : List Batch = old.kept ++ batch ∷ [] in
    let end : Course = later old entry kept (states.Up has) in
    record {
      own = own;
      stamp_is = stamp_next old.stamp old.me stamp h is;
      committed = subst (λ i. AreCommitted setup i kept) me committed.decided;
      few = omega (arith, own.few_kept, length_push old.kept batch);
      here = (me, committed);
      sent = sent;
      step = λ sendings counted whole next.
          let l : Local = local_of setup.replicas sendings old in
          let gained : LocalSteps setup old.me (heard_of old.me h) l entry (local_up stamp sendings kept has) = gains_step setup old.me (heard_of old.me h) l entry batch (local_up stamp sendings kept has) refl next (gains sendings whole) in
          let seen : local_up stamp sendings kept has ≡ local_of setup.replicas (sendings ++ sent_by ask stamp None) end =
          sym (local_seen setup sendings end has refl me committed) ∙ ap (λ (s : List Sending). local_of setup.replicas s end) (sym (append-nil sendings)) ∙ ap (λ (s : List Sending). local_of setup.replicas (sendings ++ s) end) none in
          subst (LocalSteps setup old.me (heard_of old.me h) l entry) seen gained;
    }

-- the act that was done
pub act_kept : (setup : Setup) (inst : Inst) (batch : Batch) (old : Course) (stamp : ℕ) (was has : Replica) → IsCourse setup old.me old → old.state ≡ states.Up was → InstFits setup.spec inst → Decides setup inst (cores.view_of was) (decision.Act batch) → HasCommitted setup (old.kept ++ batch ∷ []) has
    → HasAnswered setup inst was (outcomes.Done (length (own_log was))) has → stamp ≡ min (max old.stamp 0 + 1) last_stamp → IsStep setup (asks.Do inst) heard.Nothing old stamp (outcomes.Done (length (own_log was))) None (old.kept ++ batch ∷ []) (states.Up has)
act_kept setup inst batch old stamp was has own up fits decided committed answered is =
    let here = committed_up setup old.me old was own up in
    let kept : List Batch = old.kept in
    let done : Outcome = outcomes.Done (length (own_log was)) in
    let me : has.me ≡ old.me = answered.own.me_is ∙ here.0 in
    kept_step setup (asks.Do inst) heard.Nothing old stamp done batch has own me committed tt refl is (λ sendings whole.
    let p : Standing = cores.standing_of old.stamp sendings kept was in
    let q : Standing = cores.standing_of old.stamp sendings kept has in
    let entry : StepEntry = entry_of old stamp (asks.Do inst) done in
    let none = subst (λ (b : Option Broken). Requested was.me inst b (lacking_here setup inst (cores.view_of was)) p done q) decided.2 (answered.requests old.stamp sendings kept) in
    let becomes : q ≡ logged was.me (body.Act inst) p = (subst (λ (k : Option Lacking). Requested was.me inst None k p done q) decided.0 none).1 in
    let requests : Requests setup (known_to was) old.me inst p done q = subst (λ i. Requests setup (known_to was) i inst p done q) here.0 (answered.requests old.stamp sendings kept) in
    subst (λ (l : Local). Gains setup old.me None l entry batch (local_up stamp sendings (kept ++ batch ∷ []) has)) (sym (local_is setup sendings old was own up)) (record {
      admitted = [];
      applied = [];
      after = q;
      items = ap (λ (s : Standing). drop (length p.log) s.log) becomes ∙ back_of p.log (item_of (cores.view_of was) (body.Act inst) ∷ []) (length p.log) refl ∙ sym decided.1;
      some = λ none. let wrong = sym none ∙ decided.1 in absurd cc;
      kept = refl;
      answers = record { would = done; draft = q; drafts = (refl, requests); ends = inl (refl, refl, refl) };
      becomes = ap (λ (k : Logs). let l : Local = record { standing = cores.standing_of stamp sendings (kept ++ batch ∷ []) has; known = k } in l) (answered.knows ∙ ap (λ i. slice_set (known_to was) i (own_log has)) me);
    }))
