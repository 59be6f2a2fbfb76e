-- A request that acts, from its room to its entry.
use Rattle.std.proofs.Common.{◌≡◌, inl, ℕ, List, [], ◌∷◌, ◌++◌, length, sym, ap, subst, ◌∙◌, arith}
use Rattle.std.specs.Prelude.{None, Some}
use Rattle.spec_model.specs.declared.plan.Setup.{Setup}
use Rattle.spec_model.specs.declared.instance.Inst.{Inst}
use Rattle.spec_model.specs.declared.log.Body.TheVariants as body
use Rattle.spec_model.specs.declared.log.LogItem.{LogItem}
use Rattle.run_model.specs.declared.batch.Batch.{Batch}
use Rattle.run_model.specs.declared.step.Ask.{Ask}
use Rattle.run_model.specs.declared.step.Ask.TheVariants as asks
use Rattle.run_model.specs.declared.step.Outcome.{Outcome}
use Rattle.run_model.specs.declared.step.Outcome.TheVariants as outcomes
use Rattle.run_model.specs.declared.step.StepEntry.{StepEntry}
use Rattle.run_model.specs.Logs.{with_all}
use Rattle.message_laws.specs.Views.{View, item_of, own_items}
use Rattle.replica_core.specs.Decisions.{Decides, IsDecided, IsReadyFor}
use Rattle.replica_core.specs.declared.decision.Decision.TheVariants as decision
use Rattle.replica_core.specs.Recovered.{HasCommitted}
use Rattle.replica_core.specs.Replicas.{HasAnswered, IsReplica, known_to, own_log, view_of}
use Rattle.replica_core.specs.declared.replica.Replica.{Replica}
use Rattle.replica_core.proofs.Replayed.{commits_more}
use Rattle.replica_course.specs.Courses.{IsCourse}
use Rattle.replica_course.specs.Courses as courses
use Rattle.replica_course.specs.Parts.{CanAct, HasActed, HasChanged, HasKept, HasStayed, HasTried, IsActing, IsReadied, entry_of, failed, with_both, with_room}
use Rattle.replica_course.specs.Steps.{CourseSteps}
use Rattle.replica_course.specs.declared.answer.Answer.{Answer}
use Rattle.replica_course.specs.declared.course.Course.{Course}
use Rattle.replica_course.specs.declared.course.State.TheVariants as states
use Rattle.replica_course.specs.declared.heard.Heard.{Heard}
use Rattle.replica_course.specs.declared.heard.Heard.TheVariants as heard
use Rattle.replica_course.proofs.Kept.{act_kept, stays_as_seen}
use Rattle.replica_course.proofs.Seen.{room_up, up_is, view_up}
use Rattle.replica_course.proofs.Stepping.{IsStep, has_stepped}

-- ---- a step that is tried

-- the replica that was made ready
pub ready_up : (setup : Setup) (old ready : Course) (items : List LogItem) (h : HasStayed setup old ready) → IsReadied setup items ready → (ready.state ≡ states.Up h.has) × IsReadyFor setup h.has items
ready_up setup old ready items h is =
    let up : ready.state ≡ states.Up h.has = ap (λ (c : Course). c.state) h.changed.becomes in
    (up, subst (λ (r : Replica). IsReadyFor setup r items) (up_is ready.state is.r h.has is.up up) is.ready)

-- it decides by what it did
pub view_stays : (setup : Setup) (old ready : Course) (h : HasStayed setup old ready) → IsCourse setup old.me old → view_of h.has ≡ courses.view_of setup.replicas old
view_stays setup old ready h own = h.same.view ∙ view_up setup old.me old h.was own h.changed.up

pub tried_up : (setup : Setup) (stamp : ℕ) (ask : Ask) (items : List LogItem) (old now : Course) (h : HasTried setup stamp ask items old now) → now.state ≡ states.Up h.stayed.has
tried_up setup stamp ask items old now h = ap (λ (c : Course). c.state) h.becomes ∙ ap (λ (c : Course). c.state) h.stayed.changed.becomes

-- with another replica in its place it still has that room
pub tried_room : (setup : Setup) (stamp : ℕ) (ask : Ask) (items : List LogItem) (old now next : Course) (h : HasTried setup stamp ask items old now) (was has : Replica) → HasChanged now next was has → next ≡ with_room (entry_of old stamp ask outcomes.DiskBroken) (record old { state = states.Up has })
tried_room setup stamp ask items old now next h was has changed =
    let in_state : Course → Course = λ c. record c { state = states.Up has } in
    let entry : StepEntry = entry_of old stamp ask outcomes.DiskBroken in
    changed.becomes ∙ ap in_state h.becomes ∙ ap (λ (c : Course). let n : Course = record (with_room entry c) { state = states.Up has } in n) h.stayed.changed.becomes

-- and where its disk failed, the batch is pending
pub tried_failed : (setup : Setup) (stamp : ℕ) (ask : Ask) (h : Heard) (batch : Batch) (old now new : Course) (answer : Answer) → IsStep setup ask h old stamp outcomes.DiskBroken None old.kept (states.Down (Some batch)) → HasTried setup stamp ask batch.items old now
    → answer ≡ record { entry = entry_of now stamp ask outcomes.DiskBroken; sent = None } → ((setup : Setup) (old : Course) → HasTried setup stamp ask batch.items old now → new ≡ failed stamp ask batch old) → IsCourse setup old.me new × CourseSteps setup ask h old answer new
tried_failed setup stamp ask h batch old now new answer step tried is becomes =
    let me : now.me ≡ old.me = ap (λ (c : Course). c.me) tried.becomes ∙ ap (λ (c : Course). c.me) tried.stayed.changed.becomes in
    has_stepped setup ask h old stamp outcomes.DiskBroken None old.kept (states.Down (Some batch)) answer new step
    (is ∙ ap (λ i. let a : Answer = record { entry = record { stamp = stamp; replica = i; ask = ask; outcome = outcomes.DiskBroken }; sent = None } in a) me) (becomes setup old tried)

-- the replica that commits the batch has committed that too
pub tried_commits : (setup : Setup) (stamp : ℕ) (ask : Ask) (batch : Batch) (old now next : Course) (h : HasTried setup stamp ask batch.items old now) (was has : Replica) → IsCourse setup old.me old → IsDecided setup (courses.view_of setup.replicas old) batch → HasChanged now next was has
    → IsReplica setup was.me has → known_to has ≡ with_all batch.items (known_to was) → (was ≡ h.stayed.has) × HasCommitted setup (old.kept ++ batch ∷ []) has
tried_commits setup stamp ask batch old now next h was has own decided changed has_own known =
    let same : was ≡ h.stayed.has = up_is now.state was h.stayed.has changed.up (tried_up setup stamp ask batch.items old now h) in
    let seen = stays_as_seen setup old h.stayed.was h.stayed.has own h.stayed.changed.up h.stayed.same in
    let here : IsDecided setup (view_of h.stayed.has) batch = subst (λ (v : View). IsDecided setup v batch) (sym (view_stays setup old h.ready h.stayed own)) decided in
    (same, commits_more setup old.kept batch h.stayed.has has seen.1 here (subst (λ (r : Replica). IsReplica setup r.me has) same has_own) (known ∙ ap (λ (r : Replica). with_all batch.items (known_to r)) same))

-- ---- the act

pub can_act : (setup : Setup) (inst : Inst) (stamp : ℕ) (batch : Batch) (old now : Course) → IsActing setup inst stamp batch old now → CanAct setup inst batch now
can_act setup inst stamp batch old now h =
    let stayed = h.tried.stayed in
    let ready = ready_up setup old h.tried.ready batch.items stayed h.tried.has_room in
    record {
      r = stayed.has;
      up = tried_up setup stamp (asks.Do inst) batch.items old now h.tried;
      own = (stays_as_seen setup old stayed.was stayed.has h.own stayed.changed.up stayed.same).1.own;
      fits = h.fits;
      decided = subst (λ (v : View). Decides setup inst v (decision.Act batch)) (sym (view_stays setup old h.tried.ready stayed h.own)) h.decided;
      room = stayed.same.room 1 (room_up setup old.me 1 old stayed.was h.own stayed.changed.up h.room (omega arith));
      ready = ready.1;
    }

-- its batch has one item
pub act_item : (setup : Setup) (inst : Inst) (batch : Batch) (v : View) → Decides setup inst v (decision.Act batch) → (item : LogItem) × (batch.items ≡ item ∷ [])
act_item setup inst batch v decided = (item_of v (body.Act inst), decided.1)

-- what was acted on is kept
pub acted_kept : (setup : Setup) (inst : Inst) (stamp index : ℕ) (batch : Batch) (old now mid new : Course) (entry : StepEntry) (answer : Answer) → IsActing setup inst stamp batch old now → HasActed setup inst batch now mid → ((item : LogItem) → batch.items ≡ item ∷ [] → index ≡ item.index)
    → entry ≡ entry_of mid stamp (asks.Do inst) (outcomes.Done index) → ((c : Course) (room : StepEntry) → mid ≡ with_room room c → new ≡ with_both entry batch c) → answer ≡ record { entry = entry_of new stamp (asks.Do inst) (outcomes.Done index); sent = None }
    → HasKept setup (asks.Do inst) heard.Nothing batch old answer new
acted_kept setup inst stamp index batch old now mid new entry answer h acted place entry_is becomes answer_is =
    let ask : Ask = asks.Do inst in
    let stayed = h.tried.stayed in
    let was : Replica = stayed.was in
    let has : Replica = acted.has in
    let decided : IsDecided setup (courses.view_of setup.replicas old) batch = inl (inst, h.fits, h.decided) in
    let commits = tried_commits setup stamp ask batch old now mid h.tried acted.was has h.own decided acted.changed acted.answered.own acted.known in
    let outcome : ℕ → Outcome = λ n. outcomes.Done n in
    let own_same : own_log stayed.has ≡ own_log was = ap own_items stayed.same.view in
    let view : view_of was ≡ courses.view_of setup.replicas old = view_up setup old.me old was h.own stayed.changed.up in
    let here : index ≡ length (own_log was) = place (item_of (courses.view_of setup.replicas old) (body.Act inst)) h.decided.1 ∙ ap (λ (v : View). length (own_items v)) (sym view) in
    let answered : HasAnswered setup inst was (outcomes.Done (length (own_log was))) has =
    stayed.same.answered inst (outcomes.Done (length (own_log was))) has
    (subst (λ (l : List LogItem). HasAnswered setup inst stayed.has (outcomes.Done (length l)) has) own_same (subst (λ (r : Replica). HasAnswered setup inst r (outcomes.Done (length (own_log r))) has) commits.0 acted.answered)) in
    let step = act_kept setup inst batch old stamp was has h.own stayed.changed.up h.fits (subst (λ (v : View). Decides setup inst v (decision.Act batch)) (sym view) h.decided) commits.1 answered h.stamp_is in
    let end : Course = record old { state = states.Up has } in
    let room : mid ≡ with_room (entry_of old stamp ask outcomes.DiskBroken) end = tried_room setup stamp ask batch.items old now mid h.tried acted.was has acted.changed in
    let given : StepEntry = entry_of old stamp ask (outcomes.Done (length (own_log was))) in
    let entry_given : entry ≡ given = entry_is ∙ ap (λ (c : Course). entry_of c stamp ask (outcomes.Done index)) room ∙ ap (λ n. entry_of old stamp ask (outcomes.Done n)) here in
    let new_is : new ≡ with_both given batch end = becomes end (entry_of old stamp ask outcomes.DiskBroken) room ∙ ap (λ (e : StepEntry). with_both e batch end) entry_given in
    let answer_given : answer ≡ record { entry = given; sent = None } =
    answer_is ∙ ap (λ (c : Course). let a : Answer = record { entry = entry_of c stamp ask (outcomes.Done index); sent = None } in a) new_is ∙ ap (λ n. let a : Answer = record { entry = entry_of old stamp ask (outcomes.Done n); sent = None } in a) here in
    let both = has_stepped setup ask heard.Nothing old stamp (outcomes.Done (length (own_log was))) None (old.kept ++ batch ∷ []) (states.Up has) answer new step answer_given new_is in
    record {
      own = both.0;
      steps = both.1;
      kept = ap (λ (c : Course). c.kept) new_is;
      up = ap (λ (c : Course). courses.running_of c) new_is;
      unbroken = λ broken. let wrong : outcomes.Done (length (own_log was)) ≡ outcomes.DiskBroken = sym (ap (λ (a : Answer). a.entry.outcome) answer_given) ∙ broken in absurd cc;
    }
