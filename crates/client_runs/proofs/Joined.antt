-- What replicas served by themselves is one legal run.
use Rattle.std.proofs.Common.{◌≡◌, ℕ, zero, suc, ◌+◌, ◌-◌, ◌<◌, ◌≤◌, cond, Bool, true, false, List, [], ◌∷◌, ◌++◌, length, map, take, refl, sym, ap, subst, ◌∙◌, arith, eq-eqb, length-set}
use Rattle.std.proofs.lemmas.Option.{slice_get_within}
use Rattle.std.specs.Prelude.{slice_get, ◌==◌, if◌then◌else◌, replicate, Option, Some, None}
use Rattle.std.specs.List.{AllByRecursion}
use Rattle.std.proofs.lemmas.List.{length-map}
use Rattle.spec_model.specs.declared.plan.Setup.{Setup}
use Rattle.run_model.specs.declared.history.Final.{Final}
use Rattle.run_model.specs.declared.history.History.{History}
use Rattle.run_model.specs.declared.message.Message.{Message}
use Rattle.run_model.specs.declared.step.Ask.{Ask}
use Rattle.run_model.specs.declared.step.Ask.TheVariants as asks
use Rattle.run_model.specs.declared.step.StepEntry.{StepEntry}
use Rattle.run_model.specs.Finals.{final_of, last_of, lasts_from}
use Rattle.run_model.specs.Fitting.{AsksFit, DoFits}
use Rattle.run_model.specs.Locals.{FinalsAgree, Local}
use Rattle.run_model.specs.Logs.{Logs}
use Rattle.run_model.specs.Runs.{InOrder, Runs, entries_at}
use Rattle.run_model.specs.Sound.{AtEachStep, IsSettled, IsSound, RunsAreSound}
use Rattle.run_model.specs.Worlds.{Standing, World, first_standing, first_world, logs_of}
use Rattle.run_model.proofs.Lists.{each_take, get_front}
use Rattle.run_trace.specs.Merging.{AreHistories, IsMerged}
use Rattle.local_runs.specs.Alone.{RunsAlone, gots_in, numbers_got, puts_in}
use Rattle.local_runs.specs.Handed.{AskFits, Handed, HandRuns, IsPeer}
use Rattle.local_runs.specs.Laws.{AloneIsCounted, AloneIsInOrder, AloneIsNumbered}
use Rattle.replica_course.specs.Courses.{history_of, local_of}
use Rattle.replica_course.specs.declared.course.Course.{Course}
use Rattle.client_asks.specs.Asking.{ClientWork}
use Rattle.replica_node.specs.Laws.{AreJoined, AreOneRun, ClosedIsOneRun}
use Rattle.client_runs.specs.Alone.{HaveServed, ServesAlone}
use Rattle.client_runs.specs.Laws.{AreServedRun}
use Rattle.client_runs.specs.Serving.{IsLegalService, IsServed, takes_of, ups_of}

-- ---- places

pub get_map : {X Y : Type 0} (f : X → Y) (xs : List X) (k : ℕ) (x : X) → slice_get xs k ≡ Some x → slice_get (map f xs) k ≡ Some (f x)
get_map f [] k x is = absurd cc
get_map f (y ∷ xs) zero x is = let same : y ≡ x = cc in ap (λ z. Some (f z)) same
get_map f (y ∷ xs) (suc k) x is = get_map f xs k x is

pub mapped : {X Y : Type 0} (f : X → Y) (xs : List X) (i : ℕ) (y : Y) → slice_get (map f xs) i ≡ Some y → (x : X) × (slice_get xs i ≡ Some x) × (y ≡ f x)
mapped f [] i y is = absurd cc
mapped f (x ∷ xs) zero y is = (x, refl, cc)
mapped f (x ∷ xs) (suc i) y is = mapped f xs i y is

pub some_at : {X : Type 0} (xs : List X) (k : ℕ) → k < length xs → (x : X) × (slice_get xs k ≡ Some x)
some_at [] k lt = absurd (omega (arith, lt))
some_at (x ∷ xs) zero lt = (x, refl)
some_at (x ∷ xs) (suc k) lt = some_at xs k (omega (arith, lt))

pub some_same : {X : Type 0} (x y : X) → Some x ≡ Some y → x ≡ y
some_same x y is = cc

-- ---- the entries of each replica

-- what holds of the entries of each replica holds of all
all_entries : (P : StepEntry → Type 0) (n : ℕ) (entries : List StepEntry) → AllByRecursion (λ e. e.replica < n) entries → ((me : ℕ) → me < n → AllByRecursion P (entries_at me entries)) → AllByRecursion P entries
all_entries P n [] below each = tt
all_entries P n (e ∷ entries) below each = (first (e.replica == e.replica) (eq-eqb e.replica e.replica refl) (each e.replica below.0), all_entries P n entries below.1 (λ me lt. behind me (e.replica == me) (each me lt)))
  where
    first : (b : Bool) → b ≡ true → AllByRecursion P (cond b (e ∷ entries_at e.replica entries) (entries_at e.replica entries)) → P e
    first true is all = all.0
    first false is all = absurd cc

    behind : (me : ℕ) (b : Bool) → AllByRecursion P (cond b (e ∷ entries_at me entries) (entries_at me entries)) → AllByRecursion P (entries_at me entries)
    behind me true all = all.1
    behind me false all = all

-- ---- what is asked fits

do_fits : (setup : Setup) (me : ℕ) (ask : Ask) → AskFits setup me ask → DoFits setup.spec ask
do_fits setup me (asks.Do inst) fits = fits
do_fits setup me (asks.Send to number) fits = tt
do_fits setup me (asks.Take from number) fits = tt
do_fits setup me asks.Crash fits = tt
do_fits setup me asks.Recover fits = tt

hands_fit : (setup : Setup) (me : ℕ) (old new : Local) (steps : List Handed) → HandRuns setup me old steps new → AsksFit setup.spec (map (λ s. s.entry) steps)
hands_fit setup me old new [] runs = tt
hands_fit setup me old new (s ∷ steps) runs = (do_fits setup me s.entry.ask runs.1.fits, hands_fit setup me runs.0 new steps runs.2)

alone_fits : (setup : Setup) (me : ℕ) (up : Bool) (taken put : ℕ → List Message) (entries : List StepEntry) (last : Local) → RunsAlone setup me up taken put entries last → AsksFit setup.spec entries
alone_fits setup me up taken put entries last h = subst (AsksFit setup.spec) h.are (hands_fit setup me _ last h.steps h.runs)

-- ---- closing takes

pub takes_same : (many other : ℕ → ℕ) (me n : ℕ) → ((peer : ℕ) → peer < n → many peer ≡ other peer) → takes_of many me n ≡ takes_of other me n
takes_same many other me zero same = refl
takes_same many other me (suc n) same =
    ap (λ (front : List Ask). front ++ (if n == me then [] else replicate (many n) (asks.Take n None))) (takes_same many other me n (λ peer lt. same peer (omega (arith, lt))))
    ∙ ap (λ k. takes_of other me n ++ (if n == me then [] else replicate k (asks.Take n None))) (same n (omega arith))

-- ---- one run

runs_long : (setup : Setup) (old new : World) (entries : List StepEntry) → Runs setup old entries new → length new ≡ length old
runs_long setup old new [] runs = ap length runs
runs_long setup old new (e ∷ entries) runs =
    runs_long setup runs.0 new entries runs.2 ∙ ap length runs.1.becomes ∙ length-set old e.replica runs.1.after

-- a run keeps how many replicas there are
world_long : (setup : Setup) (ups : List Bool) (entries : List StepEntry) (world : World) → length ups ≡ setup.replicas → Runs setup (first_world setup.replicas ups) entries world → length world ≡ setup.replicas
world_long setup ups entries world long runs = runs_long setup (first_world setup.replicas ups) world entries runs ∙ length-map ups (first_standing setup.replicas) ∙ long

pub ups_same : (setup : Setup) (courses : List Course) → ups_of (map (history_of setup) courses) ≡ map (λ (c : Course). c.first_up) courses
ups_same setup [] = refl
ups_same setup (c ∷ courses) = ap (λ (ups : List Bool). c.first_up ∷ ups) (ups_same setup courses)

pub lasts_same : (setup : Setup) (logs : Logs) (k : ℕ) (courses : List Course) (w : World) → length courses ≡ length w
    → ((i : ℕ) (c : Course) (p : Standing) → slice_get courses i ≡ Some c → slice_get w i ≡ Some p → (history_of setup c).last ≡ last_of p.running (final_of setup logs (k + i) p))
    → map (λ (h : History). h.last) (map (history_of setup) courses) ≡ lasts_from setup logs k w
lasts_same setup logs k [] [] long same = refl
lasts_same setup logs k [] (p ∷ w) long same = absurd (omega (arith, long))
lasts_same setup logs k (c ∷ courses) [] long same = absurd (omega (arith, long))
lasts_same setup logs k (c ∷ courses) (p ∷ w) long same =
    ap (λ (f : Option Final). f ∷ map (λ (h : History). h.last) (map (history_of setup) courses)) (same 0 c p refl refl ∙ ap (λ j. last_of p.running (final_of setup logs j p)) (omega arith))
    ∙ ap (λ (fs : List (Option Final)). last_of p.running (final_of setup logs k p) ∷ fs)
    (lasts_same setup logs (k + 1) courses w (omega (arith, long)) (λ i other q is at. same (suc i) other q is at ∙ ap (λ j. last_of q.running (final_of setup logs j q)) (omega arith)))

module _ (setup : Setup) (work : ClientWork) (courses : List Course) (taken put : ℕ → ℕ → List Message) (h : HaveServed setup work courses taken put) where
  abbrev shown : List History
  shown = map (history_of setup) courses

  -- in every order the entries are joined
  joined : (sorted : List StepEntry) → IsMerged shown sorted → AreJoined setup courses sorted
  joined sorted merged = record {
    in_order = merged.in_order;
    within = subst (λ k. AllByRecursion (λ (e : StepEntry). e.replica < k) sorted) (length-map courses (history_of setup) ∙ h.closed.whole) merged.below;
    each = λ me c is. merged.each me (history_of setup c) (get_map (history_of setup) courses me c is);
  }

  fit : (sorted : List StepEntry) → AreJoined setup courses sorted → AsksFit setup.spec sorted
  fit sorted join = all_entries (λ e. DoFits setup.spec e.ask) setup.replicas sorted join.within
      (λ me lt.
      let at = some_at courses me (omega (arith, lt, h.closed.whole)) in
      let one = h.closed.each me at.0 at.1 in
      subst (AsksFit setup.spec) (sym (join.each me at.0 at.1)) (alone_fits setup me at.0.first_up (taken me) (put me) at.0.entries _ one.1))

  -- of each other replica it got the messages in order
  got_in_order : AloneIsNumbered → (me : ℕ) (c : Course) → slice_get courses me ≡ Some c → (peer k number : ℕ) → IsPeer setup me peer → slice_get (numbers_got peer c.entries) k ≡ Some number → number ≡ k
  got_in_order numbers me c at peer k number is_peer is =
      let mine = h.closed.each me c at in
      let theirs = some_at courses peer (omega (arith, is_peer.0, h.closed.whole)) in
      let alone = h.closed.each peer theirs.0 theirs.1 in
      let got : numbers_got peer c.entries ≡ map (λ (m : Message). m.number) (taken me peer) = (numbers setup me c.first_up (taken me) (put me) c.entries _ mine.1).1 peer in
      let m = mapped (λ (m : Message). m.number) (taken me peer) k number (subst (λ ks. slice_get ks k ≡ Some number) got is) in
      let front = h.closed.passed me peer (omega (arith, slice_get_within courses me c at, h.closed.whole)) is_peer.0 is_peer.1 in
      m.2 ∙ (numbers setup peer theirs.0.first_up (taken peer) (put peer) theirs.0.entries _ alone.1).0 me k m.0 (subst (λ ms. slice_get ms k ≡ Some m.0) (sym front.1) (get_front (taken me peer) front.0 k m.0 m.1))

  -- each replica served, as its entries in the run tell
  served : AloneIsCounted → AloneIsNumbered → (sorted : List StepEntry) → AreJoined setup courses sorted → (me : ℕ) → me < setup.replicas → IsServed setup work sorted me
  served counts numbers sorted join me lt =
      let at = some_at courses me (omega (arith, lt, h.closed.whole)) in
      let one : ServesAlone setup work put me at.0.entries = h.served me at.0 at.1 in
      let many : ℕ → ℕ = λ peer. length (put peer me) - gots_in peer one.turns in
      let counted : ℕ → ℕ = λ peer. puts_in me (entries_at peer sorted) - gots_in peer one.turns in
      let same : (peer : ℕ) → peer < setup.replicas → many peer ≡ counted peer = λ peer less.
      let theirs = some_at courses peer (omega (arith, less, h.closed.whole)) in
      let alone = h.closed.each peer theirs.0 theirs.1 in
      let put_is : puts_in me theirs.0.entries ≡ length (put peer me) = (counts setup peer theirs.0.first_up (taken peer) (put peer) theirs.0.entries _ alone.1).0 me in
      ap (λ k. k - gots_in peer one.turns) (sym (ap (puts_in me) (join.each peer theirs.0 theirs.1) ∙ put_is)) in
      record {
        turns = one.turns;
        closing = one.closing;
        parts = join.each me at.0 at.1 ∙ one.parts;
        asked = one.asked;
        closing_asked = one.closing_asked ∙ takes_same many counted me setup.replicas same;
        found = one.found;
        got_in_order = λ peer k number is_peer is. got_in_order numbers me at.0 at.1 peer k number is_peer (subst (λ (es : List StepEntry). slice_get (numbers_got peer es) k ≡ Some number) (join.each me at.0 at.1) is);
      }

  -- how a replica shows itself at the end, by all logs
  shows_last : (sorted : List StepEntry) (world : World) → AreOneRun setup courses sorted world → FinalsAgree → (i : ℕ) (c : Course) (p : Standing) → slice_get courses i ≡ Some c → slice_get world i ≡ Some p
      → (history_of setup c).last ≡ last_of p.running (final_of setup (logs_of world) i p)
  shows_last sorted world one finals i c p is at =
      let stand = one.stand i c is in
      let l : Local = local_of setup.replicas stand.0 c in
      let here : l.standing ≡ p = some_same l.standing p (sym stand.1.is ∙ at) in
      ap (λ j. last_of l.standing.running (final_of setup l.known j l.standing)) (h.place i c is)
      ∙ ap (last_of l.standing.running) (finals setup (map (λ (d : Course). d.first_up) courses) sorted world i l (length-map courses (λ (d : Course). d.first_up) ∙ h.closed.whole) one.runs stand.1)
      ∙ ap (λ (q : Standing). last_of q.running (final_of setup (logs_of world) i q)) here

  -- each is the history of its own replica, in order
  pub histories : AloneIsInOrder → AreHistories shown
  histories order = record {
    replica = λ i k is.
        let m = mapped (history_of setup) courses i k is in
        ap (λ (q : History). q.replica) m.2 ∙ h.place i m.0 m.1;
    own = λ i k is.
        let m = mapped (history_of setup) courses i k is in
        let one = h.closed.each i m.0 m.1 in
        subst (λ (q : History). AllByRecursion (λ (e : StepEntry). e.replica ≡ i) q.entries) (sym m.2) (order setup i m.0.first_up (taken i) (put i) m.0.entries _ one.1).1;
    in_order = λ i k is.
        let m = mapped (history_of setup) courses i k is in
        let one = h.closed.each i m.0 m.1 in
        subst (λ (q : History). InOrder q.entries) (sym m.2) (order setup i m.0.first_up (taken i) (put i) m.0.entries _ one.1).0;
  }

  pub served_run : AloneIsCounted → AloneIsNumbered → ClosedIsOneRun → RunsAreSound → FinalsAgree → IsSettled setup → setup.replicas ≤ 16 → (sorted : List StepEntry) → IsMerged shown sorted → (world : World) × AreServedRun setup work courses sorted world
  served_run counts numbers one_run sound finals settled few sorted merged =
      let join = joined sorted merged in
      let one = one_run setup courses taken put sorted settled few h.closed join in
      let world : World = one.0 in
      let ups : List Bool = map (λ (c : Course). c.first_up) courses in
      let long_ups : length ups ≡ setup.replicas = length-map courses (λ (c : Course). c.first_up) ∙ h.closed.whole in
      let long : length world ≡ setup.replicas = world_long setup ups sorted world long_ups one.1.runs in (
        world,
        record {
          run = record {
            legal = subst (λ (us : List Bool). IsLegalService setup work us sorted world) (sym (ups_same setup courses)) (record {
              all = long_ups;
              runs = one.1.runs;
              in_order = merged.in_order;
              bare = one.1.bare;
              served = served counts numbers sorted join;
            });
            sound = subst (λ (us : List Bool). AtEachStep setup us sorted (IsSound setup)) (sym (ups_same setup courses)) (λ k w runs.
                sound setup ups (take k sorted) w settled long_ups (each_take (λ (e : StepEntry). DoFits setup.spec e.ask) k sorted (fit sorted join)) runs);
            lasts = lasts_same setup (logs_of world) 0 courses world (h.closed.whole ∙ sym long) (λ i c p is at.
                shows_last sorted world one.1 finals i c p is at ∙ ap (λ j. last_of p.running (final_of setup (logs_of world) j p)) (omega arith));
          };
          whole = long;
          stand = one.1.stand;
        },
      )
