-- A step of the replica at a place, with the storage there.
use Rattle.std.proofs.Common.{◌≡◌, inl, inr, ℕ, ◌<◌, ◌≤◌, List, [], ◌∷◌, ◌++◌, length, get_or, refl, sym, ap, subst, ◌∙◌, arith, length-set}
use Rattle.std.specs.Prelude.{map, slice_get, slice_set, Some, Result, Ok, Err, IfOk, OnErr}
use Rattle.std.specs.List.{AllByRecursion}
use Rattle.std.proofs.lemmas.Bool.Decides.{eqb_tells}
use Rattle.std.proofs.lemmas.Option.{slice_get-get_or}
use Rattle.ind_base.specs.declared.refusal.NoMemory.{NoMemory}
use Rattle.spec_model.specs.declared.plan.Setup.{Setup}
use Rattle.run_model.specs.declared.batch.Batch.{Batch}
use Rattle.run_model.specs.declared.step.Ask.{Ask}
use Rattle.run_model.specs.declared.step.Order.{Order}
use Rattle.run_model.specs.declared.step.StepEntry.{StepEntry}
use Rattle.run_model.specs.Locals.{Local, LocalStepIsOne, StandsIn}
use Rattle.run_model.specs.Runs.{InOrder, Runs}
use Rattle.run_model.specs.Sound.{IsSettled}
use Rattle.run_model.specs.Worlds.{Running, first_world}
use Rattle.run_model.proofs.Lists.{get_set_other}
use Rattle.message_laws.specs.Laws.{MessagesAreHeeded}
use Rattle.batch_storage.specs.Shown.{Costs, Shown}
use Rattle.scenario_text.specs.Numbered.{IsNumbered}
use Rattle.scenario_text.specs.WellFormed.{OrderFits}
use Rattle.replica_core.specs.Laws.{DecidedGrow}
use Rattle.replica_course.specs.Courses.{IsAsBefore, IsCourse, running_of}
use Rattle.replica_course.specs.Steps.{AskFits, BreaksDisk, CourseSteps, HasInHand}
use Rattle.replica_course.specs.declared.answer.Answer.{Answer}
use Rattle.replica_course.specs.declared.course.Course.{Course}
use Rattle.replica_course.specs.declared.heard.Heard.{Heard}
use Rattle.replica_world.specs.Links.{sendings_at}
use Rattle.replica_world.specs.Stepping.{AreAsBefore, IsAtHand, IsDue, IsOnLink, StaysAt, StepsAt, links_after, with_room}
use Rattle.replica_world.specs.Worlds.{AreKept, AreRunning, HasStopsAt, IsHere}
use Rattle.replica_world.proofs.Hand.{ask_fits, has_in_hand, on_link}
use Rattle.replica_course.proofs.Spent.{stops_more, stops_same}
use Rattle.replica_world.proofs.Kept.{at_one, set_same}
use Rattle.replica_world.proofs.Room.{room_at_hand, room_on_link}
use Rattle.replica_world.proofs.Entries.{map_set}
use Rattle.replica_world.proofs.Running.{few_entries, running_more}

abbrev line : ℕ → Ask → Order
line me ask = record { replica = me; ask = ask }

-- what is known before the step
pub record IsReady {S : Type 0} (keeps : S → ℕ → List Batch → Running → Type 0) (setup : Setup) (me : ℕ) (ask : Ask) (links : List (List Heard)) (courses : List Course) (storages : List S) (c : Course) (s : S) (h : Heard) : Type 0 where
  pub was : slice_get courses me ≡ Some c
  pub had : slice_get storages me ≡ Some s
  pub own : IsCourse setup c.me c
  pub kept : keeps s setup.replicas c.kept (running_of c)
  pub fits : AskFits setup c.me (running_of c) ask
  pub at_hand : IsAtHand links me ask (running_of c) h
  pub in_hand : HasInHand ask (running_of c) h
  pub room : length c.entries < 100000

-- the line may follow those before it, and there is room on the links for what it sends
abbrev pub HasRoomFor : Setup → ℕ → Ask → List Course → List (List Heard) → Type 0
HasRoomFor setup me ask courses links = (before : List (List Heard)) × (done : List Order) × IsDue setup done (line me ask) courses before × (links ≡ with_room before me ask)

pub ready : {S : Type 0} {keeps : S → ℕ → List Batch → Running → Type 0} {setup : Setup} {me : ℕ} {ask : Ask} {links found : List (List Heard)} {courses : List Course} {storages : List S} {c : Course} {s : S} (h : Heard) → HasRoomFor setup me ask courses links
    → AreKept keeps setup courses storages → c ≡ get_or courses me c → s ≡ get_or storages me s → found ≡ links → IsAtHand found me ask (running_of c) h → IsReady keeps setup me ask links courses storages c s h
ready {setup = setup} {me = me} {ask = ask} {links = links} {courses = courses} {storages = storages} {c = c} {s = s} h (before, done, due, room) kept is_course is_storage same at =
    let run : AreRunning setup done courses before = due.running in
    let was : slice_get courses me ≡ Some c = slice_get-get_or courses me c (omega (arith, due.fits.within, run.whole)) ∙ ap (λ (x : Course). Some x) (sym is_course) in
    let had : slice_get storages me ≡ Some s = slice_get-get_or storages me s (omega (arith, due.fits.within, run.whole, kept.whole)) ∙ ap (λ x. Some x) (sym is_storage) in
    let here : IsHere setup (length done) run.entries run.world me c = run.each me c was in
    let hand : IsAtHand links me ask (running_of c) h = subst (λ l. IsAtHand l me ask (running_of c) h) same at in
    let hand_before : IsAtHand before me ask (running_of c) h = room_at_hand before me ask (running_of c) h (subst (λ l. IsAtHand l me ask (running_of c) h) room hand) in
    record {
      was = was;
      had = had;
      own = subst (λ i. IsCourse setup i c) (sym here.own.me_is) here.own;
      kept = kept.each me c s was had;
      fits = subst (λ i. AskFits setup i (running_of c) ask) (sym here.own.me_is) (ask_fits setup me (running_of c) ask due.fits.step);
      at_hand = hand;
      in_hand = has_in_hand setup done run.world before me ask (running_of c) h run.linked due.fits.within due.fits.step hand_before;
      room = omega (arith, few_entries setup done courses before me c run was, due.room);
    }

-- what a take names is on its link
pub there : (setup : Setup) (me : ℕ) (ask : Ask) (links found : List (List Heard)) (courses : List Course) → HasRoomFor setup me ask courses links → setup.replicas ≤ 8 → found ≡ links → IsOnLink found me ask
there setup me ask links found courses (before, done, due, room) few same =
    subst (λ l. IsOnLink l me ask) (sym (same ∙ room)) (room_on_link before me ask (on_link setup done due.running.world before me ask due.running.linked few due.fits.within due.fits.step due.numbered))

-- the step
pub steps_at : (setup : Setup) (me : ℕ) (ask : Ask) (links : List (List Heard)) (courses : List Course) (c after : Course) (h : Heard) (r : Result Answer NoMemory) → slice_get courses me ≡ Some c → IsAtHand links me ask (running_of c) h → IsCourse setup c.me after
    → IfOk r (λ answer. CourseSteps setup ask h c answer after) → IfOk r (λ answer. StepsAt setup me ask links courses answer (slice_set courses me after))
steps_at setup me ask links courses c after h (Ok answer) was at own steps = record { before = c; after = after; was = was; becomes = refl; hand = h; at_hand = at; own = own; steps = steps }
steps_at setup me ask links courses c after h (Err e) was at own steps = tt

-- or none
pub stays_at : (setup : Setup) (me : ℕ) (courses : List Course) (c after : Course) (r : Result Answer NoMemory) → slice_get courses me ≡ Some c → IsCourse setup c.me after → OnErr r (IsAsBefore c after) → OnErr r (StaysAt setup me courses (slice_set courses me after))
stays_at setup me courses c after (Ok answer) was own same = tt
stays_at setup me courses c after (Err e) was own same = record { before = c; after = after; was = was; becomes = refl; own = own; as_before = same }

-- its stops
pub stops_if : {S : Type 0} (shows : S → Shown) (setup : Setup) (me : ℕ) (ask : Ask) (courses : List Course) (storages : List S) (c after : Course) (s last : S) (h : Heard) (r : Result Answer NoMemory) → slice_get courses me ≡ Some c → slice_get storages me ≡ Some s
    → IfOk r (λ answer. CourseSteps setup ask h c answer after) → OnErr r (IsAsBefore c after) → Costs (shows s) (shows last) (BreaksDisk r)
    → (i given : ℕ) → HasStopsAt shows courses storages i given → HasStopsAt shows (slice_set courses me after) (slice_set storages me last) i given
stops_if shows setup me ask courses storages c after s last h (Ok answer) was had steps same costs i given before = at_one shows me courses storages c after s last was had (stops_more given (shows s) (shows last) c after answer.entry costs steps.entries steps.first_up) i before
stops_if shows setup me ask courses storages c after s last h (Err e) was had steps same costs i given before = at_one shows me courses storages c after s last was had (stops_same ⊥ given (shows s) (shows last) c after costs same.entries same.first_up) i before

-- the world once what was sent is on its link
pub stepped : (setup : Setup) (me : ℕ) (ask : Ask) (links roomy put : List (List Heard)) (old new : List Course) (answer : Answer) → LocalStepIsOne → MessagesAreHeeded → DecidedGrow → IsSettled setup → setup.replicas ≤ 8
    → OrderFits setup.spec setup.replicas (line me ask) → StepsAt setup me ask roomy old answer new → roomy ≡ with_room links me ask → put ≡ links_after links me ask answer.entry.stamp answer.sent
    → (done : List Order) → AreRunning setup done old links → IsNumbered done (line me ask) → length done < 100000 → AreRunning setup (done ++ line me ask ∷ []) new put
stepped setup me ask links roomy put old new answer one heeded grow settled few fits steps room is_put done run numbered short =
    subst (AreRunning setup (done ++ line me ask ∷ []) new) (sym is_put) (running_more setup done (line me ask) links old answer new (record {
      one = one;
      heeded = heeded;
      grow = grow;
      settled = settled;
      few = few;
      due = record { fits = fits; running = run; numbered = numbered; room = short };
      steps = record {
        before = steps.before;
        after = steps.after;
        was = steps.was;
        becomes = steps.becomes;
        hand = steps.hand;
        at_hand = room_at_hand links me ask (running_of steps.before) steps.hand (subst (λ l. IsAtHand l me ask (running_of steps.before) steps.hand) room steps.at_hand);
        own = steps.own;
        steps = steps.steps;
      };
    }))

-- the world after a refusal
pub stayed : (setup : Setup) (me : ℕ) (links put : List (List Heard)) (old new : List Course) → StaysAt setup me old new → put ≡ links → (done : List Order) → AreRunning setup done old links → AreRunning setup done new put
stayed setup me links put old new stays is_put done run =
    let before : Course = stays.before in
    let after : Course = stays.after in
    let same : IsAsBefore before after = stays.as_before in
    let here : IsHere setup (length done) run.entries run.world me before = run.each me before stays.was in
    let stamp : after.stamp ≡ before.stamp = ap (λ (l : Local). l.standing.stamp) (same.stands 0 []) in
    let ups : map (λ (c : Course). c.first_up) new ≡ map (λ (c : Course). c.first_up) old = ap (map (λ (c : Course). c.first_up)) stays.becomes ∙ map_set (λ (c : Course). c.first_up) old me before after stays.was same.first_up in
    let still : IsHere setup (length done) run.entries run.world me after = record {
      own = subst (λ i. IsCourse setup i after) here.own.me_is stays.own;
      stands = subst (StandsIn run.world me) (sym (same.stands setup.replicas (sendings_at run.world me))) here.stands;
      entries_are = same.entries ∙ here.entries_are;
      in_order = subst InOrder (sym same.entries) here.in_order;
      before = subst (λ n. AllByRecursion (λ (e : StepEntry). e.stamp ≤ n) after.entries) (sym stamp) (subst (AllByRecursion (λ (e : StepEntry). e.stamp ≤ before.stamp)) (sym same.entries) here.before);
      stamp = omega (arith, stamp, here.stamp);
    } in
    subst (AreRunning setup done new) (sym is_put) (record {
      entries = run.entries;
      world = run.world;
      runs = subst (λ us. Runs setup (first_world setup.replicas us) run.entries run.world) (sym ups) run.runs;
      within = run.within;
      fit = run.fit;
      asked = run.asked;
      whole = ap length stays.becomes ∙ length-set old me after ∙ run.whole;
      world_whole = run.world_whole;
      each = λ j c is.
          let there : slice_get (slice_set old me after) j ≡ Some c = ap (λ (cs : List Course). slice_get cs j) (sym stays.becomes) ∙ is in
          elim (eqb_tells j me) [
            | inl at ↦ subst (λ i. IsHere setup (length done) run.entries run.world i c) (sym at.1) (subst (IsHere setup (length done) run.entries run.world me) (set_same old me before after c stays.was (ap (slice_get (slice_set old me after)) (sym at.1) ∙ there)) still)
            | inr other ↦ run.each j c (get_set_other old me j after c other.1 there)
          ];
      short = run.short;
      linked = run.linked;
    })

-- each replica after it
pub all_as_before : (setup : Setup) (me : ℕ) (old new : List Course) → StaysAt setup me old new → AreAsBefore old new
all_as_before setup me old new stays = record {
  whole = ap length stays.becomes ∙ length-set old me stays.after;
  each = λ j c d was is.
      let there : slice_get (slice_set old me stays.after) j ≡ Some d = ap (λ (cs : List Course). slice_get cs j) (sym stays.becomes) ∙ is in
      elim (eqb_tells j me) [
        | inl at ↦
            let first : stays.before ≡ c = some_same stays.before c (sym stays.was ∙ ap (slice_get old) (sym at.1) ∙ was) in
            let last : stays.after ≡ d = set_same old me stays.before stays.after d stays.was (ap (slice_get (slice_set old me stays.after)) (sym at.1) ∙ there) in
            subst (λ (x : Course). IsAsBefore x d) first (subst (IsAsBefore stays.before) last stays.as_before)
        | inr other ↦
            let one : c ≡ d = some_same c d (sym was ∙ get_set_other old me j stays.after d other.1 there) in
            subst (IsAsBefore c) one (record { me = refl; first_up = refl; entries = refl; stands = λ replicas sendings. refl })
      ];
}
  where
    some_same : (x y : Course) → Some x ≡ Some y → x ≡ y
    some_same x y is = cc
