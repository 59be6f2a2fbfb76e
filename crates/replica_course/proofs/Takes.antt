-- A take, from its room to its entry.
use Rattle.std.proofs.Common.{◌≡◌, ◌≢◌, ◌⊎◌, inl, inr, ℕ, ◌+◌, ◌<◌, List, [], ◌∷◌, ◌++◌, length, drop, max, refl, sym, ap, subst, ◌∙◌, arith}
use Rattle.std.specs.Prelude.{None, Some, min, slice_set}
use Rattle.std.proofs.lemmas.List.{append-nil}
use Rattle.std.proofs.Math.Seq.{drop-length}
use Rattle.spec_model.specs.declared.plan.Setup.{Setup}
use Rattle.spec_model.specs.declared.log.LogItem.{LogItem}
use Rattle.spec_model.specs.declared.right.Want.{Want}
use Rattle.run_model.specs.declared.batch.Batch.{Batch}
use Rattle.run_model.specs.declared.message.Message.{Message}
use Rattle.run_model.specs.declared.step.Ask.{Ask}
use Rattle.run_model.specs.declared.step.Outcome.{Outcome}
use Rattle.run_model.specs.declared.step.Outcome.TheVariants as outcomes
use Rattle.run_model.specs.declared.step.StepEntry.{StepEntry}
use Rattle.run_model.specs.Fitting.{MessageFits}
use Rattle.run_model.specs.Locals.{Local}
use Rattle.run_model.specs.Logs.{Logs, log_at, with_all}
use Rattle.run_model.specs.Steps.{Takes, answered, dropped, received, unseen}
use Rattle.run_model.specs.Worlds.{Sending, Standing, Up, items_between}
use Rattle.message_laws.specs.Heeded.{Heeds, IsHeededWhole, silent}
use Rattle.message_laws.specs.Views.{IsView, View}
use Rattle.message_drafts.specs.Taking.{IsTaken, TakesHeeded}
use Rattle.message_drafts.specs.declared.taken.Taken.{Taken}
use Rattle.replica_core.specs.Recovered.{HasCommitted}
use Rattle.replica_core.specs.Replicas.{HasTaken, IsReplica, known_to, own_log, view_of}
use Rattle.replica_core.specs.Replicas as cores
use Rattle.replica_core.specs.declared.replica.Replica.{Replica}
use Rattle.replica_core.proofs.Drafted.{drafted, taken_between}
use Rattle.replica_core.proofs.Silent.{heeded_part, nothing_taken}
use Rattle.replica_course.specs.Courses.{IsCourse, local_of, running_of}
use Rattle.replica_course.specs.Courses as courses
use Rattle.replica_course.specs.Parts.{CanTake, HasKept, HasStayed, HasTakenIt, IsReadied, IsTaking, entry_of, take_of, took_of, with_both, with_entry, with_room}
use Rattle.replica_course.specs.Steps.{CourseSteps, last_stamp, sending_of}
use Rattle.replica_course.specs.declared.answer.Answer.{Answer}
use Rattle.replica_course.specs.declared.course.Course.{Course}
use Rattle.replica_course.specs.declared.course.State.TheVariants as states
use Rattle.replica_course.specs.declared.heard.Heard.TheVariants as heard
use Rattle.replica_course.proofs.Acting.{ready_up, tried_commits, tried_room, tried_up, view_stays}
use Rattle.replica_course.proofs.Kept.{kept_step, pending_step, stays_as_seen}
use Rattle.replica_course.proofs.Rested.{still}
use Rattle.replica_course.proofs.Seen.{committed_up, room_up, up_is, up_of, view_up}
use Rattle.replica_course.proofs.Stepping.{Gains, IsStep, Stays, has_stepped, later}
use Rattle.replica_course.proofs.Upright.{committed_still, local_is, local_seen, local_up}

-- ---- a message that is heeded whole

-- it fits, or nothing is in it
abbrev Fits : Setup → Replica → Message → Type 0
Fits setup r message = MessageFits setup r.me message ⊎ (message ≡ silent setup.replicas message)

whole_fits : (setup : Setup) (r : Replica) (message : Message) → Heeds setup (view_of r) message message → Fits setup r message
whole_fits setup r message (inl (addressed, part)) = inl (heeded_part setup r message message addressed (inl (addressed, part))).3.fits
whole_fits setup r message (inr (astray, is)) = inr is

whole_taken : (setup : Setup) (r : Replica) (message : Message) (taken : Taken) → IsHeededWhole setup (view_of r) message → TakesHeeded setup (view_of r) message taken → IsTaken setup message (view_of r) taken
whole_taken setup r message taken whole h = subst (λ (m : Message). IsTaken setup m (view_of r) taken) (whole.1 h.heeded h.heeds) h.takes

-- where something is taken of it, it fits
some_fits : (setup : Setup) (r : Replica) (message : Message) (taken : Taken) → Fits setup r message → IsTaken setup message (view_of r) taken → taken.batch.items ≢ [] → MessageFits setup r.me message
some_fits setup r message taken (inl fits) h some = fits
some_fits setup r message taken (inr is) h some = absurd (some (nothing_taken setup message (view_of r) taken (subst (λ (m : Message). IsTaken setup m (view_of r) taken) is h)).0)

none_before : {X : Type 0} (xs ys : List X) → xs ++ ys ≡ [] → xs ≡ []
none_before [] ys is = refl
none_before (x ∷ xs) ys is = absurd cc

-- and a take of nothing leads to nothing
nothing_between : (setup : Setup) (logs : Logs) (me : ℕ) (message : Message) (applied : List LogItem) (p q : Standing) (outcome : Outcome) → message.items ≡ [] → message.wants ≡ [] → Takes setup logs me message applied p outcome q → items_between applied p q ≡ []
nothing_between setup logs me message applied p q outcome items wants h =
    let nil : applied ≡ [] = none_before applied h.admitted.rest (sym h.admitted.prefix ∙ ap (unseen p.cut) items) in
    let log : q.log ≡ p.log =
    ap (λ (s : Standing). s.log) h.becomes ∙ ap (λ (w : List Want). (answered setup logs me message.from w h.before_answers).log) wants ∙ ap (λ (s : Standing). s.log) h.before_is
    ∙ ap (λ (a : List LogItem). (dropped setup logs me (received me message a p)).log) nil in
    ap (λ (a : List LogItem). a ++ drop (length p.log) q.log) nil ∙ ap (drop (length p.log)) log ∙ drop-length p.log

-- ---- pending

pub take_pending : (setup : Setup) (message : Message) (taken : Taken) (old : Course) (stamp : ℕ) → IsCourse setup old.me old → running_of old ≡ Up → TakesHeeded setup (courses.view_of setup.replicas old) message taken → taken.batch.items ≢ [] → stamp ≡ min (max old.stamp message.stamp + 1) last_stamp
    → IsStep setup (take_of message) (heard.Message message) old stamp outcomes.DiskBroken None old.kept (states.Down (Some taken.batch))
take_pending setup message taken old stamp own up decided some is =
    let r : Replica = (up_of old.state up).0 in
    let here : old.state ≡ states.Up r = (up_of old.state up).1 in
    let committed = committed_up setup old.me old r own here in
    let v : View = courses.view_of setup.replicas old in
    let seen : view_of r ≡ v = view_up setup old.me old r own here in
    pending_step setup (take_of message) (heard.Message message) old stamp taken.batch own up (inr (message, taken, decided, refl)) some is refl (λ sendings whole.
    let l : Local = local_of setup.replicas sendings old in
    let whole_here : IsHeededWhole setup (view_of r) message = subst (λ (w : View). IsHeededWhole setup w message) (sym seen) whole in
    let took : IsTaken setup message (view_of r) taken = whole_taken setup r message taken whole_here (subst (λ (w : View). TakesHeeded setup w message taken) (sym seen) decided) in
    let fits : MessageFits setup v.me message = subst (λ (w : View). MessageFits setup w.me message) seen (some_fits setup r message taken (whole_fits setup r message whole_here.0) took some) in
    let d = drafted setup v message taken l.standing (subst (IsView setup) seen committed.1.own.view) fits (subst (λ (w : View). IsTaken setup message w taken) seen took) refl refl in
    (d.applied, took_of message taken, d.draft, d.takes, d.batch))

-- ---- kept

-- the take that was done
pub take_kept : (setup : Setup) (message : Message) (taken : Taken) (old : Course) (stamp : ℕ) (was has : Replica) → IsCourse setup old.me old → old.state ≡ states.Up was → TakesHeeded setup (view_of was) message taken → taken.batch.items ≢ [] → HasCommitted setup (old.kept ++ taken.batch ∷ []) has → IsReplica setup was.me has
    → (IsHeededWhole setup (view_of was) message → HasTaken setup message was (took_of message taken) has) → stamp ≡ min (max old.stamp message.stamp + 1) last_stamp
    → IsStep setup (take_of message) (heard.Message message) old stamp (took_of message taken) None (old.kept ++ taken.batch ∷ []) (states.Up has)
take_kept setup message taken old stamp was has own up decided some committed has_own takes is =
    let here = committed_up setup old.me old was own up in
    let kept : List Batch = old.kept in
    let seen : view_of was ≡ courses.view_of setup.replicas old = view_up setup old.me old was own up in
    let me : has.me ≡ old.me = has_own.me_is ∙ here.0 in
    kept_step setup (take_of message) (heard.Message message) old stamp (took_of message taken) taken.batch has own me committed tt refl is (λ sendings whole.
    let p : Standing = cores.standing_of old.stamp sendings kept was in
    let q : Standing = cores.standing_of old.stamp sendings kept has in
    let entry : StepEntry = entry_of old stamp (take_of message) (took_of message taken) in
    let whole_here : IsHeededWhole setup (view_of was) message = subst (λ (w : View). IsHeededWhole setup w message) (sym seen) whole in
    let h : HasTaken setup message was (took_of message taken) has = takes whole_here in
    let took : IsTaken setup message (view_of was) taken = whole_taken setup was message taken whole_here decided in
    let fits : MessageFits setup was.me message = some_fits setup was message taken (whole_fits setup was message whole_here.0) took some in
    let step = h.takes old.stamp sendings kept in
    let mine : Takes setup (with_all h.applied (known_to was)) old.me message h.applied p (took_of message taken) q =
    subst (λ i. Takes setup (with_all h.applied (known_to was)) i message h.applied p (took_of message taken) q) here.0 step in
    subst (λ (l : Local). Gains setup old.me (Some (sending_of message)) l entry taken.batch (local_up stamp sendings (kept ++ taken.batch ∷ []) has)) (sym (local_is setup sendings old was own up)) (record {
      admitted = h.applied;
      applied = h.applied;
      after = q;
      items = taken_between setup (view_of was) message taken p h.applied (took_of message taken) q here.1.own.view fits took refl refl step;
      some = some;
      kept = refl;
      answers = record { would = took_of message taken; draft = q; drafts = mine; ends = inl (refl, refl, refl) };
      becomes = ap (λ (k : Logs). let l : Local = record { standing = cores.standing_of stamp sendings (kept ++ taken.batch ∷ []) has; known = k } in l) (h.knows ∙ ap (λ i. slice_set (with_all h.applied (known_to was)) i (own_log has)) me);
    }))

-- ---- nothing to keep

pub take_empty : (setup : Setup) (message : Message) (taken : Taken) (old : Course) (stamp : ℕ) (was has : Replica) → IsCourse setup old.me old → old.state ≡ states.Up was → TakesHeeded setup (view_of was) message taken → taken.batch.items ≡ [] → IsReplica setup was.me has → known_to has ≡ known_to was
    → (IsHeededWhole setup (view_of was) message → HasTaken setup message was (took_of message taken) has) → stamp ≡ min (max old.stamp message.stamp + 1) last_stamp
    → IsStep setup (take_of message) (heard.Message message) old stamp (took_of message taken) None old.kept (states.Up has)
take_empty setup message taken old stamp was has own up decided none has_own knows takes is =
    let here = committed_up setup old.me old was own up in
    let kept : List Batch = old.kept in
    let outcome : Outcome = took_of message taken in
    let seen : view_of was ≡ courses.view_of setup.replicas old = view_up setup old.me old was own up in
    let me : has.me ≡ old.me = has_own.me_is ∙ here.0 in
    let committed : HasCommitted setup kept has = committed_still setup kept was has here.1 has_own knows in
    let log : own_log has ≡ own_log was = ap (λ (l : Logs). log_at l has.me) knows ∙ ap (log_at (known_to was)) has_own.me_is in
    still setup (take_of message) (heard.Message message) old stamp outcome (states.Up has) own (me, committed) is (λ sendings counted whole.
    let p : Standing = cores.standing_of old.stamp sendings kept was in
    let q : Standing = cores.standing_of old.stamp sendings kept has in
    let entry : StepEntry = entry_of old stamp (take_of message) outcome in
    let next : Local = local_of setup.replicas (sendings ++ []) (later old entry kept (states.Up has)) in
    let whole_here : IsHeededWhole setup (view_of was) message = subst (λ (w : View). IsHeededWhole setup w message) (sym seen) whole in
    let h : HasTaken setup message was outcome has = takes whole_here in
    let took : IsTaken setup message (view_of was) taken = whole_taken setup was message taken whole_here decided in
    let step = h.takes old.stamp sendings kept in
    let logs : List LogItem → Logs = λ applied. with_all applied (known_to was) in
    let between : items_between h.applied p q ≡ [] = elim (whole_fits setup was message whole_here.0) [
      | inl fits ↦ taken_between setup (view_of was) message taken p h.applied outcome q here.1.own.view fits took refl refl step ∙ none
      | inr quiet ↦ nothing_between setup (logs h.applied) was.me message h.applied p q outcome (ap (λ (m : Message). m.items) quiet) (ap (λ (m : Message). m.wants) quiet) step
    ] in
    let applied : h.applied ≡ [] = none_before h.applied (drop (length p.log) q.log) between in
    let mine : Takes setup (known_to was) old.me message [] p outcome q =
    subst (λ (a : List LogItem). Takes setup (logs a) old.me message a p outcome q) applied (subst (λ i. Takes setup (logs h.applied) i message h.applied p outcome q) here.0 step) in
    subst (λ (l : Local). Stays setup old.me (Some (sending_of message)) l entry next) (sym (local_is setup sendings old was own up)) (record {
      admitted = [];
      after = q;
      log = log;
      kept = refl;
      answers = record { would = outcome; draft = q; drafts = mine; ends = inl (refl, refl, refl) };
      becomes = local_seen setup (sendings ++ []) (later old entry kept (states.Up has)) has refl me committed
          ∙ ap (λ (s : List Sending). local_up stamp s kept has) (append-nil sendings)
          ∙ ap (λ (l : Logs). let n : Local = record { standing = cores.standing_of stamp sendings kept has; known = l } in n) knows;
    }))

-- ---- from its room to its entry

-- it may do what it decided
pub can_take_at : (setup : Setup) (message : Message) (taken : Taken) (old ready now : Course) → IsCourse setup old.me old → TakesHeeded setup (courses.view_of setup.replicas old) message taken → length old.entries < 100000 → HasStayed setup old ready → IsReadied setup taken.batch.items ready → now.state ≡ ready.state
    → CanTake setup message taken now
can_take_at setup message taken old ready now own decided few stayed readied same =
    let here = ready_up setup old ready taken.batch.items stayed readied in
    record {
      r = stayed.has;
      up = same ∙ here.0;
      own = (stays_as_seen setup old stayed.was stayed.has own stayed.changed.up stayed.same).1.own;
      decided = subst (λ (v : View). TakesHeeded setup v message taken) (sym (view_stays setup old ready stayed own)) decided;
      room = stayed.same.room 24 (room_up setup old.me 24 old stayed.was own stayed.changed.up few (omega arith));
      ready = here.1;
    }

pub can_take : (setup : Setup) (message : Message) (stamp : ℕ) (taken : Taken) (old now : Course) → IsTaking setup message stamp taken old now → CanTake setup message taken now
can_take setup message stamp taken old now h = can_take_at setup message taken old h.tried.ready now h.own h.decided h.room h.tried.stayed h.tried.has_room (ap (λ (c : Course). c.state) h.tried.becomes)

-- what was taken, by the replica as it was before its room
took_before : (setup : Setup) (message : Message) (taken : Taken) (was ready done has : Replica) → cores.view_of ready ≡ view_of was → done ≡ ready → ((outcome : Outcome) (last : Replica) → HasTaken setup message ready outcome last → HasTaken setup message was outcome last) → TakesHeeded setup (view_of was) message taken
    → ((heeded : Message) → Heeds setup (view_of done) message heeded → IsTaken setup heeded (view_of done) taken → HasTaken setup heeded done (took_of message taken) has) → IsHeededWhole setup (view_of was) message → HasTaken setup message was (took_of message taken) has
took_before setup message taken was ready done has view same back decided took whole =
    let seen : view_of done ≡ view_of was = ap (λ (r : Replica). view_of r) same ∙ view in
    let heeds : Heeds setup (view_of done) message message = subst (λ (v : View). Heeds setup v message message) (sym seen) whole.0 in
    let is : IsTaken setup message (view_of done) taken = subst (λ (v : View). IsTaken setup message v taken) (sym seen) (whole_taken setup was message taken whole decided) in
    back (took_of message taken) has (subst (λ (r : Replica). HasTaken setup message r (took_of message taken) has) same (took message heeds is))

-- whatever was heeded of it, what is taken leaves a replica
taken_own : (setup : Setup) (message : Message) (taken : Taken) (done has : Replica) → TakesHeeded setup (view_of done) message taken
    → ((heeded : Message) → Heeds setup (view_of done) message heeded → IsTaken setup heeded (view_of done) taken → HasTaken setup heeded done (took_of message taken) has) → IsReplica setup done.me has
taken_own setup message taken done has decided took = (took decided.heeded decided.heeds decided.takes).own

-- what was taken is kept
pub took_kept : (setup : Setup) (message : Message) (stamp : ℕ) (taken : Taken) (old now mid new : Course) (entry : StepEntry) (answer : Answer) → IsTaking setup message stamp taken old now → HasTakenIt setup message taken now mid
    → entry ≡ entry_of old stamp (take_of message) (took_of message taken) → ((c : Course) (room : StepEntry) → mid ≡ with_room room c → new ≡ with_both entry taken.batch c) → answer ≡ record { entry = entry_of old stamp (take_of message) (took_of message taken); sent = None }
    → HasKept setup (take_of message) (heard.Message message) taken.batch old answer new
took_kept setup message stamp taken old now mid new entry answer h took entry_is becomes answer_is =
    let ask : Ask = take_of message in
    let stayed = h.tried.stayed in
    let was : Replica = stayed.was in
    let has : Replica = took.has in
    let up : now.state ≡ states.Up stayed.has = tried_up setup stamp ask taken.batch.items old now h.tried in
    let done_is : took.was ≡ stayed.has = up_is now.state took.was stayed.has took.changed.up up in
    let view : view_of was ≡ courses.view_of setup.replicas old = view_up setup old.me old was h.own stayed.changed.up in
    let decided : TakesHeeded setup (view_of was) message taken = subst (λ (v : View). TakesHeeded setup v message taken) (sym view) h.decided in
    let done_decided : TakesHeeded setup (view_of took.was) message taken = subst (λ (v : View). TakesHeeded setup v message taken) (sym (ap (λ (r : Replica). view_of r) done_is ∙ stayed.same.view)) decided in
    let has_own : IsReplica setup took.was.me has = taken_own setup message taken took.was has done_decided took.took in
    let commits = tried_commits setup stamp ask taken.batch old now mid h.tried took.was has h.own (inr (message, taken, h.decided, refl)) took.changed has_own took.known in
    let was_own : IsReplica setup was.me has = subst (λ i. IsReplica setup i has) (ap (λ (r : Replica). r.me) done_is ∙ ap (λ (v : View). v.me) stayed.same.view) has_own in
    let takes : IsHeededWhole setup (view_of was) message → HasTaken setup message was (took_of message taken) has = took_before setup message taken was stayed.has took.was has stayed.same.view done_is (stayed.same.took message) decided took.took in
    let step = take_kept setup message taken old stamp was has h.own stayed.changed.up decided h.some commits.1 was_own takes h.stamp_is in
    let end : Course = record old { state = states.Up has } in
    let room : mid ≡ with_room (entry_of old stamp ask outcomes.DiskBroken) end = tried_room setup stamp ask taken.batch.items old now mid h.tried took.was has took.changed in
    let given : StepEntry = entry_of old stamp ask (took_of message taken) in
    let new_is : new ≡ with_both given taken.batch end = becomes end (entry_of old stamp ask outcomes.DiskBroken) room ∙ ap (λ (e : StepEntry). with_both e taken.batch end) entry_is in
    let both = has_stepped setup ask (heard.Message message) old stamp (took_of message taken) None (old.kept ++ taken.batch ∷ []) (states.Up has) answer new step answer_is new_is in
    record {
      own = both.0;
      steps = both.1;
      kept = ap (λ (c : Course). c.kept) new_is;
      up = ap (λ (c : Course). running_of c) new_is;
      unbroken = λ broken. let wrong : took_of message taken ≡ outcomes.DiskBroken = sym (ap (λ (a : Answer). a.entry.outcome) answer_is) ∙ broken in absurd cc;
    }

-- its entry, by the course that is tried
pub taking_entry : (setup : Setup) (message : Message) (stamp : ℕ) (taken : Taken) (old now mid : Course) → IsTaking setup message stamp taken old now → HasTakenIt setup message taken now mid → entry_of mid stamp (take_of message) (took_of message taken) ≡ entry_of old stamp (take_of message) (took_of message taken)
taking_entry setup message stamp taken old now mid h took =
    let room : mid ≡ with_room (entry_of old stamp (take_of message) outcomes.DiskBroken) (record old { state = states.Up took.has }) = tried_room setup stamp (take_of message) taken.batch.items old now mid h.tried took.was took.has took.changed in
    ap (λ (c : Course). entry_of c stamp (take_of message) (took_of message taken)) room

pub entry_given : (c : Course) (stamp : ℕ) (message : Message) (taken : Taken) (ask : Ask) (outcome : Outcome) → ask ≡ take_of message → outcome ≡ took_of message taken → entry_of c stamp ask outcome ≡ entry_of c stamp (take_of message) (took_of message taken)
entry_given c stamp message taken ask outcome ask_is outcome_is = ap (λ (a : Ask). entry_of c stamp a outcome) ask_is ∙ ap (entry_of c stamp (take_of message)) outcome_is

-- a message of which nothing was kept
pub emptied : (setup : Setup) (message : Message) (stamp : ℕ) (taken : Taken) (old ready mid new : Course) (entry : StepEntry) → IsCourse setup old.me old → TakesHeeded setup (courses.view_of setup.replicas old) message taken → taken.batch.items ≡ [] → HasStayed setup old ready
    → stamp ≡ min (max old.stamp message.stamp + 1) last_stamp → entry ≡ entry_of ready stamp (take_of message) (took_of message taken) → mid ≡ with_entry (entry_of ready stamp (take_of message) (took_of message taken)) ready → HasTakenIt setup message taken mid new
    → IsCourse setup old.me new × CourseSteps setup (take_of message) (heard.Message message) old (record { entry = entry; sent = None }) new
emptied setup message stamp taken old ready mid new entry own decided none stayed stamp_is entry_is mid_is took =
    let ask : Ask = take_of message in
    let outcome : Outcome = took_of message taken in
    let was : Replica = stayed.was in
    let has : Replica = took.has in
    let up : mid.state ≡ states.Up stayed.has = ap (λ (c : Course). c.state) mid_is ∙ ap (λ (c : Course). c.state) stayed.changed.becomes in
    let done_is : took.was ≡ stayed.has = up_is mid.state took.was stayed.has took.changed.up up in
    let seen : view_of took.was ≡ view_of was = ap (λ (r : Replica). view_of r) done_is ∙ stayed.same.view in
    let view : view_of was ≡ courses.view_of setup.replicas old = view_up setup old.me old was own stayed.changed.up in
    let decided_here : TakesHeeded setup (view_of was) message taken = subst (λ (v : View). TakesHeeded setup v message taken) (sym view) decided in
    let has_own : IsReplica setup was.me has = subst (λ i. IsReplica setup i has) (ap (λ (v : View). v.me) seen) (taken_own setup message taken took.was has (subst (λ (v : View). TakesHeeded setup v message taken) (sym seen) decided_here) took.took) in
    let knows : known_to has ≡ known_to was = took.known ∙ ap (λ (l : List LogItem). with_all l (known_to took.was)) none ∙ ap (λ (v : View). v.known) seen in
    let takes : IsHeededWhole setup (view_of was) message → HasTaken setup message was outcome has = took_before setup message taken was stayed.has took.was has stayed.same.view done_is (stayed.same.took message) decided_here took.took in
    let step = take_empty setup message taken old stamp was has own stayed.changed.up decided_here none has_own knows takes stamp_is in
    let ready_is : ready ≡ record old { state = states.Up stayed.has } = stayed.changed.becomes in
    let end : Course → Course = λ c. record (with_entry (entry_of c stamp ask outcome) c) { state = states.Up has } in
    has_stepped setup ask (heard.Message message) old stamp outcome None old.kept (states.Up has) (record { entry = entry; sent = None }) new step
    (ap (λ (e : StepEntry). let a : Answer = record { entry = e; sent = None } in a) (entry_is ∙ ap (λ (c : Course). entry_of c stamp ask outcome) ready_is))
    (took.changed.becomes ∙ ap (λ (c : Course). let n : Course = record c { state = states.Up has } in n) mid_is ∙ ap end ready_is)
