-- Replicas that take their lines one after the other.
use Rattle.std.proofs.Common.{◌≡◌, ◌≢◌, inl, inr, ℕ, ◌+◌, ◌*◌, ◌<◌, ◌≤◌, ◌^◌, min, List, [], ◌∷◌, ◌++◌, length, refl, sym, ap, subst, ◌∙◌, arith, length-set}
use Rattle.std.specs.Prelude.{slice_get, slice_set, Some, Option, map}
use Rattle.std.specs.List.{AllByRecursion}
use Rattle.std.proofs.lemmas.Bool.Decides.{eqb_tells}
use Rattle.std.proofs.lemmas.List.{length-append, length-map}
use Rattle.std.proofs.lemmas.Option.{slice_get_within}
use Rattle.spec_model.specs.declared.plan.Setup.{Setup}
use Rattle.run_model.specs.declared.step.Order.{Order}
use Rattle.run_model.specs.declared.step.StepEntry.{StepEntry}
use Rattle.run_model.specs.Logs.{log_at}
use Rattle.run_model.specs.Worlds.{Sending, Standing, World, first_world, logs_of}
use Rattle.run_model.specs.Sound.{IsSettled}
use Rattle.run_model.specs.Steps.{Hears, links_of, next_stamp}
use Rattle.run_model.specs.Runs.{InOrder, Runs}
use Rattle.run_model.specs.Locals.{Local, LocalSteps, LocalStepIsOne, StandsIn, StepsHere}
use Rattle.run_model.proofs.Lists.{each_append, each_weaker, get_set_same, get_set_other}
use Rattle.run_model.proofs.WorldLogs.{links_there, set_log_other, set_log_same}
use Rattle.message_laws.specs.Heeded.{IsHeededWhole}
use Rattle.message_laws.specs.Laws.{MessagesAreHeeded}
use Rattle.message_laws.specs.Views.{view_in}
use Rattle.scenario_text.specs.WellFormed.{OrderFits}
use Rattle.replica_core.specs.Laws.{DecidedGrow}
use Rattle.replica_core.specs.Recovered.{AreCommitted, logs_after}
use Rattle.replica_course.specs.Courses.{IsCourse, local_of, running_of}
use Rattle.replica_course.specs.Steps.{CourseSteps, IsWhole, SentFits, heard_of, last_stamp, sent_by}
use Rattle.replica_course.specs.declared.answer.Answer.{Answer}
use Rattle.replica_course.specs.declared.course.Course.{Course}
use Rattle.replica_course.specs.declared.heard.Heard.{Heard}
use Rattle.replica_course.specs.declared.heard.Heard.TheVariants as heard
use Rattle.replica_world.specs.Links.{AreLinks, sendings_at}
use Rattle.replica_world.specs.Stepping.{IsDue, StepsAt, links_after}
use Rattle.replica_world.specs.Worlds.{AreRunning, IsHere}
use Rattle.replica_world.proofs.Asked.{asked_fit}
use Rattle.replica_world.proofs.Entries.{asked_more, entries_few, entries_other, entries_same, later_stamp, map_set, order_more, runs_more}
use Rattle.replica_world.proofs.Hand.{hand_early, heard_by_take, hears, is_counted, send_counted}
use Rattle.replica_world.proofs.Linked.{links_more}

-- ---- one step

-- the laws, and what is at hand for a step
pub record IsStep (setup : Setup) (done : List Order) (o : Order) (links : List (List Heard)) (old : List Course) (answer : Answer) (new : List Course) : Type 0 where
  pub one : LocalStepIsOne
  pub heeded : MessagesAreHeeded
  pub grow : DecidedGrow
  pub settled : IsSettled setup
  pub few : setup.replicas ≤ 8
  pub due : IsDue setup done o old links
  pub steps : StepsAt setup o.replica o.ask links old answer new

-- the replica before and after it, and where
record IsTaken (setup : Setup) (done : List Order) (o : Order) (links : List (List Heard)) (answer : Answer) (entries : List StepEntry) (w : World) (before after : Course) : Type 0 where
  here : IsHere setup (length done) entries w o.replica before
  own : IsCourse setup o.replica after
  replica : answer.entry.replica ≡ o.replica
  asked : answer.entry.ask ≡ o.ask
  heard : Option Sending
  stamp : answer.entry.stamp ≡ next_stamp before.stamp heard
  stamp_early : answer.entry.stamp ≤ length done + 1
  stamp_kept : after.stamp ≡ answer.entry.stamp
  entries_are : after.entries ≡ before.entries ++ answer.entry ∷ []
  first_up : after.first_up ≡ before.first_up
  sent : SentFits setup o.replica o.ask answer.entry.stamp answer.sent
  hears : Hears (links_of w) o.replica o.ask (running_of before) heard
  step : LocalSteps setup o.replica heard (local_of setup.replicas (sendings_at w o.replica) before) answer.entry (local_of setup.replicas (sendings_at w o.replica ++ sent_by o.ask answer.entry.stamp answer.sent) after)

min_is : (a b : ℕ) → a ≤ b → min a b ≡ a
min_is a b le = omega (arith, le)

-- the stamp is far from the greatest
small_stamp : (n : ℕ) → n ≤ 100001 → (n ≤ last_stamp) × (n < 2 ^ 64)
small_stamp n le = (omega (arith, le), omega (arith, le))

-- a message in hand is heeded whole
whole_in_hand : (setup : Setup) (done : List Order) (o : Order) (links : List (List Heard)) (old : List Course) (answer : Answer) (new : List Course) → (h : IsStep setup done o links old answer new) → (hand : Heard)
    → Hears (links_of h.due.running.world) o.replica o.ask (running_of h.steps.before) (heard_of o.replica hand) → IsWhole setup o.replica h.steps.before hand
whole_in_hand setup done o links old answer new h heard.Nothing heard = tt
whole_in_hand setup done o links old answer new h (heard.Unsent stamp) heard = tt
whole_in_hand setup done o links old answer new h (heard.Message m) heard =
    let run : AreRunning setup done old links = h.due.running in
    let at : IsHere setup (length done) run.entries run.world o.replica h.steps.before = run.each o.replica h.steps.before h.steps.was in
    let l : Local = local_of setup.replicas (sendings_at run.world o.replica) h.steps.before in
    let sent : Sending = record { to = m.to; stamp = m.stamp; message = Some m } in
    let take = heard_by_take (links_of run.world) o.replica o.ask (running_of h.steps.before) sent heard in
    subst (λ i. IsHeededWhole setup (view_in i l) m) (sym at.own.me_is)
    (h.heeded setup (map (λ (c : Course). c.first_up) old) run.entries run.world o.replica l take.0 take.1 sent m h.settled (omega (arith, h.few)) (length-map old (λ (c : Course). c.first_up) ∙ run.whole)
    (asked_fit setup done run.entries run.fit run.asked) run.runs at.stands (λ j. omega (arith, run.short j, h.due.room)) take.2 refl)

taken : (setup : Setup) (done : List Order) (o : Order) (links : List (List Heard)) (old : List Course) (answer : Answer) (new : List Course) → (h : IsStep setup done o links old answer new)
    → IsTaken setup done o links answer h.due.running.entries h.due.running.world h.steps.before h.steps.after
taken setup done o links old answer new h =
    let run : AreRunning setup done old links = h.due.running in
    let w : World = run.world in
    let before : Course = h.steps.before in
    let steps : CourseSteps setup o.ask h.steps.hand before answer h.steps.after = h.steps.steps in
    let at : IsHere setup (length done) run.entries w o.replica before = run.each o.replica before h.steps.was in
    let mine : before.me ≡ o.replica = at.own.me_is in
    let heard : Option Sending = heard_of o.replica h.steps.hand in
    let heard_is : heard_of before.me h.steps.hand ≡ heard = ap (λ i. heard_of i h.steps.hand) mine in
    let hearing : Hears (links_of w) o.replica o.ask (running_of before) heard = hears setup done w links o.replica o.ask (running_of before) h.steps.hand run.linked h.due.fits.within h.due.fits.step h.steps.at_hand in
    let early : next_stamp before.stamp heard ≤ length done + 1 = hand_early setup done w links o.replica before.stamp o.ask (running_of before) h.steps.hand run.linked h.due.fits.within h.due.fits.step h.steps.at_hand at.stamp in
    let small = small_stamp (next_stamp before.stamp heard) (omega (arith, early, h.due.room)) in
    let stamp : answer.entry.stamp ≡ next_stamp before.stamp heard = steps.stamp ∙ ap (λ (s : Option Sending). min (next_stamp before.stamp s) last_stamp) heard_is ∙ min_is (next_stamp before.stamp heard) last_stamp small.0 in
    let counted = is_counted setup done w links o.replica o.ask run.linked h.due.fits.within h.due.fits.step h.due.numbered in
    let whole = whole_in_hand setup done o links old answer new h h.steps.hand hearing in
    let n : ℕ = setup.replicas in
    let sendings : List Sending = sendings_at w o.replica in
    let l : Local = local_of n sendings before in
    let last : Local = local_of n (sendings ++ sent_by o.ask answer.entry.stamp answer.sent) h.steps.after in
    let at_me : LocalSteps setup before.me (heard_of before.me h.steps.hand) l answer.entry last =
    steps.step sendings counted (subst (λ i. IsWhole setup i before h.steps.hand) (sym mine) whole) (subst (λ (s : Option Sending). next_stamp before.stamp s < 2 ^ 64) (sym heard_is) small.1) in
    record {
      here = at;
      own = subst (λ i. IsCourse setup i h.steps.after) mine h.steps.own;
      replica = steps.replica ∙ mine;
      asked = steps.asked;
      heard = heard;
      stamp = stamp;
      stamp_early = omega (arith, stamp, early);
      stamp_kept = steps.stamp_kept;
      entries_are = steps.entries;
      first_up = steps.first_up;
      sent = subst (λ i. SentFits setup i o.ask answer.entry.stamp answer.sent) mine steps.sent;
      hears = hearing;
      step = subst (λ i. LocalSteps setup i heard l answer.entry last) mine (subst (λ (s : Option Sending). LocalSteps setup before.me s l answer.entry last) heard_is at_me);
    }

-- ---- the world after it

-- how the replica stands after it
abbrev after_of : Setup → Order → Answer → World → Course → Local
after_of setup o answer w after = local_of setup.replicas (sendings_at w o.replica ++ sent_by o.ask answer.entry.stamp answer.sent) after

abbrev world_after : Setup → Order → Answer → World → Course → World
world_after setup o answer w after = slice_set w o.replica (after_of setup o answer w after).standing

steps_here : (setup : Setup) (done : List Order) (o : Order) (links : List (List Heard)) (old : List Course) (answer : Answer) (new : List Course) → (h : IsStep setup done o links old answer new)
    → StepsHere setup h.due.running.world o.replica answer.entry (after_of setup o answer h.due.running.world h.steps.after)
steps_here setup done o links old answer new h =
    let run : AreRunning setup done old links = h.due.running in
    let t = taken setup done o links old answer new h in
    h.one setup (map (λ (c : Course). c.first_up) old) run.entries run.world o.replica t.heard (local_of setup.replicas (sendings_at run.world o.replica) h.steps.before) answer.entry (after_of setup o answer run.world h.steps.after)
    (length-map old (λ (c : Course). c.first_up) ∙ run.whole) run.runs t.here.stands
    (subst (λ a. Hears (links_of run.world) o.replica a (running_of h.steps.before) t.heard) (sym t.asked) t.hears) t.step

-- the replica that has stepped
here_same : (setup : Setup) (done : List Order) (o : Order) (links : List (List Heard)) (answer : Answer) (entries : List StepEntry) (w : World) (before after : Course) → IsTaken setup done o links answer entries w before after
    → StepsHere setup w o.replica answer.entry (after_of setup o answer w after) → IsHere setup (length done + 1) (entries ++ answer.entry ∷ []) (world_after setup o answer w after) o.replica after
here_same setup done o links answer entries w before after t one =
    let me : ℕ = o.replica in
    let e : StepEntry = answer.entry in
    let world : World = world_after setup o answer w after in
    let later : before.stamp < next_stamp before.stamp t.heard = later_stamp before.stamp t.heard in
    let lt : before.stamp < e.stamp = omega (arith, t.stamp, later) in
    record {
      own = t.own;
      stands = subst (λ (l : List Sending). StandsIn world me (local_of setup.replicas l after)) (sym (links_there world me (after_of setup o answer w after).standing one.here.is)) one.here;
      entries_are = t.entries_are ∙ ap (λ (es : List StepEntry). es ++ e ∷ []) t.here.entries_are ∙ sym (entries_same me entries e t.replica);
      in_order = subst InOrder (sym t.entries_are) (order_more before.entries e before.stamp t.here.in_order t.here.before lt);
      before = subst (AllByRecursion (λ (f : StepEntry). f.stamp ≤ after.stamp)) (sym t.entries_are)
          (each_append (λ (f : StepEntry). f.stamp ≤ after.stamp) before.entries (e ∷ [])
          (each_weaker (λ (f : StepEntry). f.stamp ≤ before.stamp) (λ (f : StepEntry). f.stamp ≤ after.stamp) (λ f le. omega (arith, le, t.stamp_kept, lt)) before.entries t.here.before)
          (omega (arith, t.stamp_kept), tt));
      stamp = omega (arith, t.stamp_kept, t.stamp_early);
    }

-- another replica
here_other : (setup : Setup) (done : List Order) (o : Order) (links : List (List Heard)) (answer : Answer) (entries : List StepEntry) (w : World) (before after : Course) → IsTaken setup done o links answer entries w before after
    → StepsHere setup w o.replica answer.entry (after_of setup o answer w after) → (j : ℕ) (other : Course) → j ≢ o.replica → IsHere setup (length done) entries w j other
    → IsHere setup (length done + 1) (entries ++ answer.entry ∷ []) (world_after setup o answer w after) j other
here_other setup done o links answer entries w before after t one j other ne at =
    let world : World = world_after setup o answer w after in
    let l : Local = local_of setup.replicas (sendings_at w j) other in
    let there : StandsIn world j l = one.others j l ne at.stands in
    record {
      own = at.own;
      stands = subst (λ (s : List Sending). StandsIn world j (local_of setup.replicas s other)) (sym (links_there world j l.standing there.is)) there;
      entries_are = at.entries_are ∙ sym (entries_other j entries answer.entry (λ is. ne (sym is ∙ t.replica)));
      in_order = at.in_order;
      before = at.before;
      stamp = omega (arith, at.stamp);
    }

-- its log has at most 24 items for each batch that it kept, and that for each of its steps
short_own : (setup : Setup) (me : ℕ) (c : Course) (sendings : List Sending) → DecidedGrow → IsCourse setup me c → length (local_of setup.replicas sendings c).standing.log ≤ 24 * length c.entries
short_own setup me c sendings grow own =
    let committed : AreCommitted setup c.me c.kept = subst (λ i. AreCommitted setup i c.kept) (sym own.me_is) own.committed in
    let bound : length (log_at (logs_after setup.replicas c.kept) c.me) ≤ 24 * length c.kept = grow.own setup c.me c.kept committed in
    let few : length c.kept ≤ length c.entries = own.few_kept in
    omega (arith, bound, few)

-- a replica has taken no more steps than there were lines
pub few_entries : (setup : Setup) (done : List Order) (courses : List Course) (links : List (List Heard)) (me : ℕ) (c : Course) → AreRunning setup done courses links → slice_get courses me ≡ Some c → length c.entries ≤ length done
few_entries setup done courses links me c h is =
    let at : IsHere setup (length done) h.entries h.world me c = h.each me c is in
    omega (arith, ap length at.entries_are, entries_few me h.entries done (h.asked me))

short_more : (setup : Setup) (done : List Order) (o : Order) (links : List (List Heard)) (old : List Course) (answer : Answer) (new : List Course) → (h : IsStep setup done o links old answer new)
    → (j : ℕ) → length (log_at (logs_of (world_after setup o answer h.due.running.world h.steps.after)) j) ≤ 24 * length done + 24
short_more setup done o links old answer new h j =
    let run : AreRunning setup done old links = h.due.running in
    let me : ℕ = o.replica in
    let w : World = run.world in
    let t = taken setup done o links old answer new h in
    let p : Standing = (after_of setup o answer w h.steps.after).standing in
    let was : length h.steps.before.entries ≤ length done = few_entries setup done old links me h.steps.before run h.steps.was in
    let more : length h.steps.after.entries ≡ length h.steps.before.entries + 1 = ap length t.entries_are ∙ length-append h.steps.before.entries (answer.entry ∷ []) in
    let bound : length p.log ≤ 24 * length h.steps.after.entries = short_own setup me h.steps.after (sendings_at w me ++ sent_by o.ask answer.entry.stamp answer.sent) h.grow t.own in
    elim (eqb_tells j me) [
      | inl same ↦
          let now : length (log_at (logs_of (slice_set w me p)) me) ≡ length p.log = ap length (set_log_same w me p (omega (arith, run.world_whole, h.due.fits.within))) in
          let at : length (log_at (logs_of (slice_set w me p)) me) ≤ 24 * length done + 24 = omega (arith, now, was, more, bound) in
          subst (λ i. length (log_at (logs_of (slice_set w me p)) i) ≤ 24 * length done + 24) (sym same.1) at
      | inr other ↦ omega (arith, ap length (set_log_other w me p j other.1), run.short j)
    ]

-- the links after it
linked_more : (setup : Setup) (done : List Order) (o : Order) (links : List (List Heard)) (old : List Course) (answer : Answer) (new : List Course) → (h : IsStep setup done o links old answer new)
    → AreLinks setup (done ++ o ∷ []) (world_after setup o answer h.due.running.world h.steps.after) (links_after links o.replica o.ask answer.entry.stamp answer.sent)
linked_more setup done o links old answer new h =
    let run : AreRunning setup done old links = h.due.running in
    let t = taken setup done o links old answer new h in
    links_more setup done o run.world (after_of setup o answer run.world h.steps.after).standing links answer.entry.stamp answer.sent (record {
      few = h.few;
      within = h.due.fits.within;
      world = omega (arith, run.world_whole, h.due.fits.within);
      peer = h.due.fits.step;
      counted = send_counted setup done run.world links o.replica o.ask run.linked h.due.fits.within h.due.numbered;
      stamp_early = t.stamp_early;
      sent_fits = t.sent;
      sendings = refl;
    }) run.linked

pub running_more : (setup : Setup) (done : List Order) (o : Order) (links : List (List Heard)) (old : List Course) (answer : Answer) (new : List Course) → IsStep setup done o links old answer new
    → AreRunning setup (done ++ o ∷ []) new (links_after links o.replica o.ask answer.entry.stamp answer.sent)
running_more setup done o links old answer new h =
    let run : AreRunning setup done old links = h.due.running in
    let me : ℕ = o.replica in
    let e : StepEntry = answer.entry in
    let after : Course = h.steps.after in
    let world : World = world_after setup o answer run.world after in
    let t = taken setup done o links old answer new h in
    let one = steps_here setup done o links old answer new h in
    let long : length (done ++ o ∷ []) ≡ length done + 1 = length-append done (o ∷ []) in
    let es : List StepEntry = run.entries ++ e ∷ [] in
    let ups : map (λ (c : Course). c.first_up) new ≡ map (λ (c : Course). c.first_up) old = ap (map (λ (c : Course). c.first_up)) h.steps.becomes ∙ map_set (λ (c : Course). c.first_up) old me h.steps.before after h.steps.was t.first_up in
    record {
      entries = es;
      world = world;
      runs = subst (λ us. Runs setup (first_world setup.replicas us) es world) (sym ups) (runs_more setup (first_world setup.replicas (map (λ (c : Course). c.first_up) old)) run.entries run.world e world run.runs one.steps);
      within = each_append (λ (f : StepEntry). f.replica < setup.replicas) run.entries (e ∷ []) run.within (omega (arith, t.replica, h.due.fits.within), tt);
      fit = each_append (OrderFits setup.spec setup.replicas) done (o ∷ []) run.fit (h.due.fits, tt);
      asked = λ j. asked_more j run.entries e done o t.replica t.asked (run.asked j);
      whole = ap length h.steps.becomes ∙ length-set old me after ∙ run.whole;
      world_whole = length-set run.world me (after_of setup o answer run.world after).standing ∙ run.world_whole;
      each = λ j c is.
          let there : slice_get (slice_set old me after) j ≡ Some c = ap (λ (cs : List Course). slice_get cs j) (sym h.steps.becomes) ∙ is in
          subst (λ k. IsHere setup k es world j c) (sym long) (elim (eqb_tells j me) [
            | inl same ↦
                let at : slice_get (slice_set old me after) me ≡ Some c = ap (slice_get (slice_set old me after)) (sym same.1) ∙ there in
                let is_after : Some after ≡ Some c = sym (get_set_same old me after (slice_get_within old me h.steps.before h.steps.was)) ∙ at in
                let same_one : after ≡ c = cc in
                subst (λ i. IsHere setup (length done + 1) es world i c) (sym same.1) (subst (IsHere setup (length done + 1) es world me) same_one (here_same setup done o links answer run.entries run.world h.steps.before after t one))
            | inr other ↦ here_other setup done o links answer run.entries run.world h.steps.before after t one j c other.1 (run.each j c (get_set_other old me j after c other.1 there))
          ]);
      short = λ j. omega (arith, short_more setup done o links old answer new h j, long);
      linked = linked_more setup done o links old answer new h;
    }
