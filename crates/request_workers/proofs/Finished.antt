-- Replicas that have taken a whole schedule: their histories are those of a legal run of it.
use Rattle.std.proofs.Common.{◌≡◌, inl, inr, ℕ, ◌<◌, ◌≤◌, cond, List, [], ◌∷◌, length, take, refl, sym, ap, subst, ◌∙◌, arith}
use Rattle.std.specs.Prelude.{slice_get, Some, Bool, map}
use Rattle.std.specs.List.{AllByRecursion}
use Rattle.std.proofs.lemmas.Bool.{ne_eqb, cases_lt}
use Rattle.std.proofs.lemmas.Bool.Decides.{eqb_tells}
use Rattle.std.proofs.lemmas.List.{length-map}
use Rattle.spec_model.specs.declared.plan.Setup.{Setup}
use Rattle.run_model.specs.declared.step.Order.{Order}
use Rattle.run_model.specs.declared.step.StepEntry.{StepEntry}
use Rattle.run_model.specs.declared.history.History.{History}
use Rattle.run_model.specs.Worlds.{Standing, World, logs_of}
use Rattle.run_model.specs.Runs.{InOrder, IsLegal, asks_in, entries_at}
use Rattle.run_model.specs.Fitting.{DoFits}
use Rattle.run_model.specs.Sound.{AtEachStep, IsSettled, IsSound, RunsAreSound}
use Rattle.run_model.specs.Finals.{final_of, last_of}
use Rattle.run_model.specs.Locals.{FinalsAgree, Local, RunsInOrder}
use Rattle.run_model.proofs.Lists.{each_take}
use Rattle.run_trace.specs.Merging.{AreOf, IsMerged}
use Rattle.scenario_text.specs.WellFormed.{ScheduleFits}
use Rattle.replica_course.specs.declared.course.Course.{Course}
use Rattle.replica_course.specs.declared.heard.Heard.{Heard}
use Rattle.replica_course.specs.Courses.{history_of, local_of}
use Rattle.replica_world.specs.Links.{sendings_at}
use Rattle.replica_world.specs.Worlds.{AreRunning, IsHere}
use Rattle.replica_world.proofs.Asked.{asked_fit}
use Rattle.client_runs.specs.Serving.{ups_of}
use Rattle.client_runs.proofs.Joined.{get_map, lasts_same, mapped, some_at, some_same, ups_same}
use Rattle.request_workers.specs.Histories.{AreLegal}

-- ---- the histories

-- the entries of one replica are its own
own_entries : (me : ℕ) (es : List StepEntry) → AreOf me (entries_at me es)
own_entries me [] = tt
own_entries me (e ∷ es) = elim (eqb_tells e.replica me) [
  | inl same ↦ subst (AreOf me) (sym (ap (λ b. cond b (e ∷ entries_at me es) (entries_at me es)) same.0)) (same.1, own_entries me es)
  | inr other ↦ subst (AreOf me) (sym (ap (λ b. cond b (e ∷ entries_at me es) (entries_at me es)) other.0)) (own_entries me es)
]

entries_none : (n me : ℕ) (es : List StepEntry) → n ≤ me → AllByRecursion (λ e. e.replica < n) es → entries_at me es ≡ []
entries_none n me [] le below = refl
entries_none n me (e ∷ es) le below = ap (λ b. cond b (e ∷ entries_at me es) (entries_at me es)) (ne_eqb e.replica me (λ is. absurd (omega (arith, le, below.0, is)))) ∙ entries_none n me es le below.1

-- ---- one legal run

-- replica me of the replicas that have taken the schedule
abbrev Here : Setup → List Order → List StepEntry → World → ℕ → Course → Type 0
Here setup schedule entries world me c = IsHere setup (length schedule) entries world me c

-- the entries of each replica are the same in every order
same_entries : (setup : Setup) (schedule : List Order) (courses : List Course) (links : List (List Heard)) (h : AreRunning setup schedule courses links) (sorted : List StepEntry)
    → IsMerged (map (history_of setup) courses) sorted → AllByRecursion (λ e. e.replica < setup.replicas) sorted → (me : ℕ) → entries_at me sorted ≡ entries_at me h.entries
same_entries setup schedule courses links h sorted merged below me = elim (cases_lt me setup.replicas) [
  | inl lt ↦
      let at = some_at courses me (omega (arith, lt, h.whole)) in
      merged.each me (history_of setup at.0) (get_map (history_of setup) courses me at.0 at.1) ∙ (h.each me at.0 at.1).entries_are
  | inr le ↦ entries_none setup.replicas me sorted le below ∙ sym (entries_none setup.replicas me h.entries le h.within)
]

-- how a replica shows itself at the end, by all logs
shows_last : (setup : Setup) (schedule : List Order) (courses : List Course) (links : List (List Heard)) (h : AreRunning setup schedule courses links) (i : ℕ) (c : Course) (p : Standing)
    → FinalsAgree → slice_get courses i ≡ Some c → slice_get h.world i ≡ Some p → (history_of setup c).last ≡ last_of p.running (final_of setup (logs_of h.world) i p)
shows_last setup schedule courses links h i c p finals is at =
    let here : Here setup schedule h.entries h.world i c = h.each i c is in
    let l : Local = local_of setup.replicas (sendings_at h.world i) c in
    let stands : l.standing ≡ p = some_same l.standing p (sym here.stands.is ∙ at) in
    ap (λ j. last_of l.standing.running (final_of setup l.known j l.standing)) here.own.me_is
    ∙ ap (last_of l.standing.running) (finals setup (map (λ (d : Course). d.first_up) courses) h.entries h.world i l (length-map courses (λ (d : Course). d.first_up) ∙ h.whole) h.runs here.stands)
    ∙ ap (λ (q : Standing). last_of q.running (final_of setup (logs_of h.world) i q)) stands

pub legal : (setup : Setup) (schedule : List Order) (courses : List Course) (links : List (List Heard)) (h : AreRunning setup schedule courses links)
    → RunsAreSound → RunsInOrder → FinalsAgree → IsSettled setup → ScheduleFits setup.spec setup.replicas schedule → AreLegal setup schedule (map (history_of setup) courses) h.world
legal setup schedule courses links h sound order finals settled fits =
    let n : ℕ = setup.replicas in
    let shown : List History = map (history_of setup) courses in
    let ups : List Bool = map (λ (c : Course). c.first_up) courses in
    let long : length shown ≡ n = length-map courses (history_of setup) ∙ h.whole in
    let long_ups : length ups ≡ n = length-map courses (λ (c : Course). c.first_up) ∙ h.whole in
    let ups_are : ups ≡ ups_of shown = sym (ups_same setup courses) in
    let below : (sorted : List StepEntry) → IsMerged shown sorted → AllByRecursion (λ e. e.replica < n) sorted = λ sorted merged. subst (λ k. AllByRecursion (λ (e : StepEntry). e.replica < k) sorted) long merged.below in
    let same : (sorted : List StepEntry) → IsMerged shown sorted → (me : ℕ) → entries_at me sorted ≡ entries_at me h.entries = λ sorted merged. same_entries setup schedule courses links h sorted merged (below sorted merged) in
    record {
      whole = long;
      own = record {
        replica = λ i history is.
            let m = mapped (history_of setup) courses i history is in
            ap (λ (k : History). k.replica) m.2 ∙ (h.each i m.0 m.1).own.me_is;
        own = λ i history is.
            let m = mapped (history_of setup) courses i history is in
            subst (λ (k : History). AreOf i k.entries) (sym m.2) (subst (AreOf i) (sym (h.each i m.0 m.1).entries_are) (own_entries i h.entries));
        in_order = λ i history is.
            let m = mapped (history_of setup) courses i history is in
            subst (λ (k : History). InOrder k.entries) (sym m.2) (h.each i m.0 m.1).in_order;
      };
      legal = λ sorted merged. subst (λ (us : List Bool). IsLegal setup schedule us sorted h.world) ups_are (record {
        all = long_ups;
        runs = order setup ups h.entries sorted h.world long_ups h.runs merged.in_order (below sorted merged) (same sorted merged);
        in_order = merged.in_order;
        asked = λ me. ap asks_in (same sorted merged me) ∙ h.asked me;
      });
      sound = λ sorted merged. subst (λ (us : List Bool). AtEachStep setup us sorted (IsSound setup)) ups_are (λ k w runs.
          let asked = asked_fit setup schedule sorted fits.orders_fit (λ me. ap asks_in (same sorted merged me) ∙ h.asked me) in
          sound setup ups (take k sorted) w settled long_ups (each_take (λ (e : StepEntry). DoFits setup.spec e.ask) k sorted asked) runs);
      lasts = lasts_same setup (logs_of h.world) 0 courses h.world (h.whole ∙ sym h.world_whole) (λ i c p is at.
          shows_last setup schedule courses links h i c p finals is at ∙ ap (λ j. last_of p.running (final_of setup (logs_of h.world) j p)) (omega arith));
    }
