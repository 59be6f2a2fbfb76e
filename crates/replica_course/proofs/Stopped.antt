-- Crashes, and recoveries by what a start finds.
use Rattle.std.proofs.Common.{◌≡◌, ◌≢◌, inl, inr, ℕ, ◌+◌, ◌<◌, List, [], ◌∷◌, ◌++◌, length, map, max, refl, sym, ap, subst, ◌∙◌, arith}
use Rattle.std.specs.Prelude.{Option, None, Some, min, slice_set}
use Rattle.std.proofs.lemmas.List.{append-nil}
use Rattle.spec_model.specs.declared.plan.Setup.{Setup}
use Rattle.spec_model.specs.declared.log.LogItem.{LogItem}
use Rattle.spec_model.specs.declared.right.Want.{Want}
use Rattle.run_model.specs.declared.batch.Batch.{Batch}
use Rattle.run_model.specs.declared.step.Ask.{Ask}
use Rattle.run_model.specs.declared.step.Ask.TheVariants as asks
use Rattle.run_model.specs.declared.step.Outcome.{Outcome}
use Rattle.run_model.specs.declared.step.Outcome.TheVariants as outcomes
use Rattle.run_model.specs.declared.step.StepEntry.{StepEntry}
use Rattle.run_model.specs.Locals.{Local}
use Rattle.run_model.specs.Logs.{Logs, cut_after, log_at, with_all}
use Rattle.run_model.specs.Steps.{Answers, AnswersDown, AnswersUp}
use Rattle.run_model.specs.Worlds.{Running, Sending, Standing, Up, no_told, others_of, own_of, restarted, stopped, with_batch}
use Rattle.causal_store.specs.Stores.{cut_in}
use Rattle.message_laws.specs.Views.{IsView, View, seeing}
use Rattle.batch_storage.specs.declared.storage.Found.TheVariants as found
use Rattle.replica_core.specs.Decisions.{IsDecided}
use Rattle.replica_core.specs.Laws.{GrowsBy}
use Rattle.replica_core.specs.Recovered.{AreCommitted, HasCommitted, HasReplayed, IsRecovered, logs_after}
use Rattle.replica_core.specs.Replicas.{HasRoom, IsReplica, known_to, own_log}
use Rattle.replica_core.specs.Replicas as cores
use Rattle.replica_core.specs.declared.replica.Replica.{Replica}
use Rattle.replica_core.proofs.Growing.{decided_grow}
use Rattle.replica_core.proofs.Lists.{back_of}
use Rattle.replica_core.proofs.Replayed.{commits_more}
use Rattle.replica_course.specs.Courses.{IsCourse, IsState, local_of, running_in, running_of, view_of}
use Rattle.replica_course.specs.Parts.{entry_of, with_both, with_entry, with_room}
use Rattle.replica_course.specs.Stops.{HasRecovered, IsRecovering, pending_in, without_it}
use Rattle.replica_course.specs.Steps.{CourseSteps, last_stamp}
use Rattle.replica_course.specs.declared.answer.Answer.{Answer}
use Rattle.replica_course.specs.declared.course.Course.{Course}
use Rattle.replica_course.specs.declared.course.State.{State}
use Rattle.replica_course.specs.declared.course.State.TheVariants as states
use Rattle.replica_course.specs.declared.heard.Heard.TheVariants as heard
use Rattle.replica_course.proofs.Grown.{log_grown, logs_grown}
use Rattle.replica_course.proofs.Kept.{kept_step}
use Rattle.replica_course.proofs.Rested.{at_rest, pending_of, still}
use Rattle.replica_course.proofs.Seen.{view_seen}
use Rattle.replica_course.proofs.Stepping.{IsStep, has_rested, has_stepped, later}

-- ---- a crash

pub crashed : (setup : Setup) (old mid : Course) (stamp : ℕ) (entry : StepEntry) → IsCourse setup old.me old → running_of old ≡ Up → stamp ≡ min (max old.stamp 0 + 1) last_stamp → entry ≡ entry_of old stamp asks.Crash outcomes.Stopped → mid ≡ with_entry (entry_of old stamp asks.Crash outcomes.Stopped) old
    → IsCourse setup old.me (record mid { state = states.Down None }) × CourseSteps setup asks.Crash heard.Nothing old (record { entry = entry; sent = None }) (record mid { state = states.Down None })
crashed setup old mid stamp entry own up is entry_is mid_is =
    let given : StepEntry = entry_of old stamp asks.Crash outcomes.Stopped in
    let end : Course = later old given old.kept (states.Down None) in
    let step : IsStep setup asks.Crash heard.Nothing old stamp outcomes.Stopped None old.kept (states.Down None) = still setup asks.Crash heard.Nothing old stamp outcomes.Stopped (states.Down None) own tt is (λ sendings counted whole.
    let l : Local = local_of setup.replicas sendings old in
    let after : Standing = stopped setup.replicas None l.standing in
    let answers : AnswersUp setup l.known old.me None [] [] stamp asks.Crash l.standing outcomes.Stopped after =
    record { would = outcomes.Stopped; draft = after; drafts = (refl, refl, refl); ends = inl (refl, refl, refl) } in
    record {
      admitted = [];
      after = after;
      log = refl;
      kept = refl;
      answers = subst (λ (r : Running). Answers setup l.known old.me r None [] [] stamp asks.Crash l.standing outcomes.Stopped after) (sym up) answers;
      becomes = ap (λ (s : List Sending). local_of setup.replicas s end) (append-nil sendings);
    }) in
    has_stepped setup asks.Crash heard.Nothing old stamp outcomes.Stopped None old.kept (states.Down None) (record { entry = entry; sent = None }) (record mid { state = states.Down None }) step
    (ap (λ (e : StepEntry). let a : Answer = record { entry = e; sent = None } in a) entry_is)
    (ap (λ (c : Course). let n : Course = record c { state = states.Down None } in n) mid_is)

-- ---- a recovery

-- room is given back to just that course
room_is : (setup : Setup) (stamp : ℕ) (r : Replica) (old now : Course) (ask : Ask) (outcome : Outcome) → IsRecovering setup stamp r old now → entry_of now stamp ask outcome ≡ entry_of old stamp ask outcome
room_is setup stamp r old now ask outcome h = ap (λ (c : Course). entry_of c stamp ask outcome) h.room

-- the disk failed again
pub down_still : (setup : Setup) (stamp : ℕ) (r : Replica) (old now new : Course) (entry last : StepEntry) → IsRecovering setup stamp r old now → entry ≡ entry_of now stamp asks.Recover outcomes.DiskBroken → ((c : Course) (room : StepEntry) → now ≡ with_room room c → new ≡ with_entry entry c)
    → last ≡ entry_of new stamp asks.Recover outcomes.DiskBroken → HasRecovered setup found.Broken old (record { entry = last; sent = None }) new
down_still setup stamp r old now new entry last h entry_is becomes last_is =
    let pending = pending_of old.state h.down in
    let given : StepEntry = entry_of old stamp asks.Recover outcomes.DiskBroken in
    let step : IsStep setup asks.Recover heard.Nothing old stamp outcomes.DiskBroken None old.kept old.state = still setup asks.Recover heard.Nothing old stamp outcomes.DiskBroken old.state h.own h.own.state h.stamp_is (λ sendings counted whole.
    let l : Local = local_of setup.replicas sendings old in
    let recovers : AnswersDown setup.replicas old.me pending.0 [] stamp asks.Recover l.standing outcomes.DiskBroken l.standing = inr (refl, refl, refl) in
    at_rest setup None old stamp asks.Recover outcomes.DiskBroken sendings
    (subst (λ (s : Running). Answers setup l.known old.me s None [] [] stamp asks.Recover l.standing outcomes.DiskBroken l.standing) (sym (ap running_in pending.1)) (refl, recovers))) in
    let new_is : new ≡ with_entry given old = becomes old given h.room ∙ ap (λ (e : StepEntry). with_entry e old) (entry_is ∙ room_is setup stamp r old now asks.Recover outcomes.DiskBroken h) in
    let both = has_rested setup asks.Recover heard.Nothing old stamp outcomes.DiskBroken None last new step (last_is ∙ ap (λ (c : Course). entry_of c stamp asks.Recover outcomes.DiskBroken) new_is) new_is in
    record { own = both.0; steps = both.1; keeps = (ap (λ (c : Course). c.kept) new_is, ap (λ (c : Course). running_of c) new_is); broken = λ is. refl }

-- the replica that was recovered has committed what was kept
recovered_committed : (setup : Setup) (me : ℕ) (kept : List Batch) (r : Replica) → AreCommitted setup me kept → IsRecovered setup me kept r → HasCommitted setup kept r
recovered_committed setup me kept r committed h = record {
  own = subst (λ i. IsReplica setup i r) (sym h.own.me_is) h.own;
  decided = subst (λ i. AreCommitted setup i kept) (sym h.own.me_is) committed;
  knows = h.knows;
}

-- how it answers, without what was pending
finds_without : (replicas me stamp : ℕ) (pending : Option Batch) (p : Standing) → AnswersDown replicas me pending [] stamp asks.Recover p (without_it pending) (restarted replicas p)
finds_without replicas me stamp None p = inl (refl, refl, refl)
finds_without replicas me stamp (Some batch) p = inl (inr (refl, refl, refl))

not_broken : (pending : Option Batch) → without_it pending ≢ outcomes.DiskBroken
not_broken None is = absurd cc
not_broken (Some batch) is = absurd cc

-- it is up with what was kept
pub up_without : (setup : Setup) (stamp : ℕ) (r : Replica) (old now mid : Course) (entry last : StepEntry) (outcome : Outcome) → IsRecovering setup stamp r old now → outcome ≡ without_it (pending_in now.state) → entry ≡ entry_of now stamp asks.Recover outcome
    → ((c : Course) (room : StepEntry) → now ≡ with_room room c → mid ≡ with_entry entry c) → last ≡ entry_of now stamp asks.Recover outcome → HasRecovered setup found.Without old (record { entry = last; sent = None }) (record mid { state = states.Up r })
up_without setup stamp r old now mid entry last outcome h outcome_is entry_is becomes last_is =
    let pending = pending_of old.state h.down in
    let is : Outcome = without_it pending.0 in
    let given : StepEntry = entry_of old stamp asks.Recover is in
    let end : Course = later old given old.kept (states.Up r) in
    let here : HasCommitted setup old.kept r = recovered_committed setup old.me old.kept r h.own.committed h.prepared.recovered in
    let step : IsStep setup asks.Recover heard.Nothing old stamp is None old.kept (states.Up r) = still setup asks.Recover heard.Nothing old stamp is (states.Up r) h.own (h.prepared.recovered.own.me_is, here) h.stamp_is (λ sendings counted whole.
    let l : Local = local_of setup.replicas sendings old in
    let after : Standing = restarted setup.replicas l.standing in
    let up : List Want → List (List ℕ) → Local = λ wants told. record l { standing = record l.standing { stamp = stamp; wants = wants; told = told; running = Up } } in
    record {
      admitted = [];
      after = after;
      log = refl;
      kept = refl;
      answers = subst (λ (s : Running). Answers setup l.known old.me s None [] [] stamp asks.Recover l.standing is after) (sym (ap running_in pending.1)) (refl, finds_without setup.replicas old.me stamp pending.0 l.standing);
      becomes = ap (λ (s : List Sending). local_of setup.replicas s end) (append-nil sendings) ∙ ap (λ (w : List Want). up w r.told) h.prepared.recovered.wants ∙ ap (up []) h.prepared.recovered.told;
    }) in
    let found_is : outcome ≡ is = outcome_is ∙ ap (λ (c : Course). without_it (pending_in c.state)) h.room ∙ ap (λ (s : State). without_it (pending_in s)) pending.1 in
    let same : entry_of now stamp asks.Recover outcome ≡ given = room_is setup stamp r old now asks.Recover outcome h ∙ ap (entry_of old stamp asks.Recover) found_is in
    let mid_is : mid ≡ with_entry given old = becomes old (entry_of old stamp asks.Recover outcomes.DiskBroken) h.room ∙ ap (λ (e : StepEntry). with_entry e old) (entry_is ∙ same) in
    let new_is : record mid { state = states.Up r } ≡ end = ap (λ (c : Course). let n : Course = record c { state = states.Up r } in n) mid_is in
    let both = has_stepped setup asks.Recover heard.Nothing old stamp is None old.kept (states.Up r) (record { entry = last; sent = None }) (record mid { state = states.Up r }) step
    (ap (λ (e : StepEntry). let a : Answer = record { entry = e; sent = None } in a) (last_is ∙ same)) new_is in
    record {
      own = both.0;
      steps = both.1;
      keeps = (ap (λ (c : Course). c.kept) mid_is, refl);
      broken = λ broken. absurd (not_broken pending.0 (sym (ap (λ (e : StepEntry). e.outcome) (last_is ∙ same)) ∙ broken));
    }

-- ---- with what was pending

-- room for 24 items
pub recovering_room : (setup : Setup) (stamp : ℕ) (r : Replica) (old now : Course) → IsRecovering setup stamp r old now → HasRoom 24 r
recovering_room setup stamp r old now h =
    let long = decided_grow.own setup old.me old.kept h.own.committed in
    let same : own_log r ≡ log_at (logs_after setup.replicas old.kept) old.me = ap (λ (l : Logs). log_at l r.me) h.prepared.recovered.knows ∙ ap (log_at (logs_after setup.replicas old.kept)) h.prepared.recovered.own.me_is in
    omega (arith, ap length same, long, h.own.few_kept, h.few)

-- what is pending was decided on
pending_decided : (setup : Setup) (old : Course) (batch : Batch) → IsCourse setup old.me old → old.state ≡ states.Down (Some batch) → IsDecided setup (view_of setup.replicas old) batch × (batch.items ≢ [])
pending_decided setup old batch own down = subst (IsState setup old.me old.kept) down own.state

-- by what a replica sees that has all that was kept, too
pub decided_anew : (setup : Setup) (old : Course) (r : Replica) (batch : Batch) → IsCourse setup old.me old → IsRecovered setup old.me old.kept r → old.state ≡ states.Down (Some batch) → IsDecided setup (cores.view_of r) batch
decided_anew setup old r batch own recovered down =
    let seen = view_seen setup old.kept r (recovered_committed setup old.me old.kept r own.committed recovered) ∙ ap (λ i. seeing i (logs_after setup.replicas old.kept)) recovered.own.me_is in
    subst (λ (w : View). IsDecided setup w batch) (sym seen) (pending_decided setup old batch own down).0

-- it is up with that too
pub kept_too : (setup : Setup) (old : Course) (stamp : ℕ) (r has : Replica) (batch : Batch) → IsCourse setup old.me old → old.state ≡ states.Down (Some batch) → IsRecovered setup old.me old.kept r → HasReplayed setup batch.items r has → stamp ≡ min (max old.stamp 0 + 1) last_stamp
    → IsStep setup asks.Recover heard.Nothing old stamp outcomes.Kept None (old.kept ++ batch ∷ []) (states.Up has)
kept_too setup old stamp r has batch own down recovered replayed is =
    let n : ℕ = setup.replicas in
    let me : ℕ = old.me in
    let v : View = view_of n old in
    let items : List LogItem = batch.items in
    let decided = pending_decided setup old batch own down in
    let here : HasCommitted setup old.kept r = recovered_committed setup me old.kept r own.committed recovered in
    let seen : cores.view_of r ≡ v = view_seen setup old.kept r here ∙ ap (λ i. seeing i (logs_after n old.kept)) recovered.own.me_is in
    let view : IsView setup v = subst (IsView setup) seen here.own.view in
    let grows : GrowsBy v items = decided_grow.grows setup v batch view decided.0 in
    let committed : HasCommitted setup (old.kept ++ batch ∷ []) has = commits_more setup old.kept batch r has here (subst (λ (w : View). IsDecided setup w batch) (sym seen) decided.0) replayed.own replayed.knows in
    let has_me : has.me ≡ me = replayed.own.me_is ∙ recovered.own.me_is in
    let known : known_to has ≡ with_all items v.known = replayed.knows ∙ ap (with_all items) recovered.knows in
    let within : me < length v.known = omega (arith, own.within, view.whole) in
    let log : own_log has ≡ log_at v.known me ++ own_of me items = ap (log_at (known_to has)) has_me ∙ ap (λ (l : Logs). log_at l me) known ∙ log_grown me items v.known within in
    let cut : cut_in has.store ≡ cut_after v.cut items = replayed.own.store.counts ∙ ap (map (λ (l : List LogItem). length l)) known ∙ sym grows.cut in
    kept_step setup asks.Recover heard.Nothing old stamp outcomes.Kept batch has own has_me committed tt refl is (λ sendings whole.
    let l : Local = local_of n sendings old in
    let p : Standing = l.standing in
    let after : Standing = restarted n (with_batch me items p) in
    let recovers : AnswersDown n me (Some batch) (others_of me items) stamp asks.Recover p outcomes.Kept after = inl (inl (refl, refl, refl)) in
    let stand : List LogItem → List ℕ → List Want → List (List ℕ) → Logs → Local = λ log cut wants told known. record {
      standing = record { log = log; cut = cut; stamp = stamp; wants = wants; told = told; sendings = sendings; running = Up; kept = old.kept ++ batch ∷ [] };
      known = known;
    } in
    let end : Logs = slice_set (with_all (others_of me items) v.known) me (log_at v.known me ++ own_of me items) in
    record {
      admitted = [];
      applied = others_of me items;
      after = after;
      items = ap (λ (l : List LogItem). others_of me items ++ l) (back_of p.log (own_of me items) (length p.log) refl) ∙ sym grows.parted;
      some = decided.1;
      kept = refl;
      answers = subst (λ (s : Running). Answers setup v.known me s None [] (others_of me items) stamp asks.Recover p outcomes.Kept after) (sym (ap running_in down)) (refl, recovers);
      becomes = ap (λ (l : List LogItem). stand l (cut_in has.store) has.wants has.told (known_to has)) log
          ∙ ap (λ (c : List ℕ). stand (log_at v.known me ++ own_of me items) c has.wants has.told (known_to has)) cut
          ∙ ap (λ (w : List Want). stand (log_at v.known me ++ own_of me items) (cut_after v.cut items) w has.told (known_to has)) (replayed.wants ∙ recovered.wants)
          ∙ ap (λ (t : List (List ℕ)). stand (log_at v.known me ++ own_of me items) (cut_after v.cut items) [] t (known_to has)) (replayed.told ∙ recovered.told)
          ∙ ap (stand (log_at v.known me ++ own_of me items) (cut_after v.cut items) [] (no_told n)) (known ∙ logs_grown v items within grows);
    })

-- what is taken out of the state was pending when the recovery began
was_pending : (setup : Setup) (stamp : ℕ) (r : Replica) (old now : Course) (batch : Batch) → IsRecovering setup stamp r old now → Some batch ≡ pending_in now.state → old.state ≡ states.Down (Some batch)
was_pending setup stamp r old now batch h pending =
    let state = pending_of old.state h.down in
    let there : Some batch ≡ state.0 = pending ∙ ap (λ (c : Course). pending_in c.state) h.room ∙ ap pending_in state.1 in
    state.1 ∙ ap (λ (p : Option Batch). states.Down p) (sym there)

pub pending_anew : (setup : Setup) (stamp : ℕ) (r : Replica) (old now : Course) (batch : Batch) → IsRecovering setup stamp r old now → Some batch ≡ pending_in now.state → IsDecided setup (cores.view_of r) batch
pending_anew setup stamp r old now batch h pending = decided_anew setup old r batch h.own h.prepared.recovered (was_pending setup stamp r old now batch h pending)

-- the state that is taken out leaves the room
pub left_room : (setup : Setup) (stamp : ℕ) (r : Replica) (old now left : Course) (state : State) → IsRecovering setup stamp r old now → left ≡ record now { state = state } → left ≡ with_room (entry_of old stamp asks.Recover outcomes.DiskBroken) (record old { state = state })
left_room setup stamp r old now left state h is = is ∙ ap (λ (c : Course). let n : Course = record c { state = state } in n) h.room

pub up_with : (setup : Setup) (stamp : ℕ) (r has : Replica) (batch : Batch) (old now left mid : Course) (entry last : StepEntry) → IsRecovering setup stamp r old now → Some batch ≡ pending_in now.state → left ≡ record now { state = states.Down None } → HasReplayed setup batch.items r has
    → entry ≡ entry_of left stamp asks.Recover outcomes.Kept → ((c : Course) (room : StepEntry) → left ≡ with_room room c → mid ≡ with_both entry batch c) → last ≡ entry_of (record mid { state = states.Up has }) stamp asks.Recover outcomes.Kept
    → HasRecovered setup found.With old (record { entry = last; sent = None }) (record mid { state = states.Up has })
up_with setup stamp r has batch old now left mid entry last h pending left_is replayed entry_is becomes last_is =
    let ask : Ask = asks.Recover in
    let down = was_pending setup stamp r old now batch h pending in
    let step = kept_too setup old stamp r has batch h.own down h.prepared.recovered replayed h.stamp_is in
    let given : StepEntry = entry_of old stamp ask outcomes.Kept in
    let end : Course = record old { state = states.Down None } in
    let room : left ≡ with_room (entry_of old stamp ask outcomes.DiskBroken) end = left_room setup stamp r old now left (states.Down None) h left_is in
    let entry_given : entry ≡ given = entry_is ∙ ap (λ (c : Course). entry_of c stamp ask outcomes.Kept) room in
    let mid_is : mid ≡ with_both given batch end = becomes end (entry_of old stamp ask outcomes.DiskBroken) room ∙ ap (λ (e : StepEntry). with_both e batch end) entry_given in
    let new_is : record mid { state = states.Up has } ≡ later old given (old.kept ++ batch ∷ []) (states.Up has) = ap (λ (c : Course). let n : Course = record c { state = states.Up has } in n) mid_is in
    let last_given : last ≡ given = last_is ∙ ap (λ (c : Course). entry_of c stamp ask outcomes.Kept) new_is in
    let both = has_stepped setup ask heard.Nothing old stamp outcomes.Kept None (old.kept ++ batch ∷ []) (states.Up has) (record { entry = last; sent = None }) (record mid { state = states.Up has }) step
    (ap (λ (e : StepEntry). let a : Answer = record { entry = e; sent = None } in a) last_given) new_is in
    record {
      own = both.0;
      steps = both.1;
      keeps = (batch, ap pending_in down, ap (λ (c : Course). c.kept) mid_is, refl);
      broken = λ broken. let wrong : outcomes.Kept ≡ outcomes.DiskBroken = sym (ap (λ (e : StepEntry). e.outcome) last_given) ∙ broken in absurd cc;
    }
