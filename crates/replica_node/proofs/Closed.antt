-- Replicas whose links were settled are one run.
use Rattle.std.proofs.Common.{◌≡◌, ◌≢◌, inl, inr, ℕ, zero, suc, ◌+◌, ◌<◌, ◌≤◌, Bool, true, false, cond, eqb, List, [], ◌∷◌, ◌++◌, length, map, filter, refl, sym, ap, subst, ◌∙◌, arith}
use Rattle.std.specs.Prelude.{slice_get, Option, Some, None}
use Rattle.std.specs.List.{AllByRecursion}
use Rattle.std.proofs.lemmas.Bool.{eq-eqb}
use Rattle.std.proofs.lemmas.List.{length-map}
use Rattle.std.proofs.lemmas.Option.{same_Some, slice_get_within}
use Rattle.spec_model.specs.declared.plan.Setup.{Setup}
use Rattle.run_model.specs.declared.message.Message.{Message}
use Rattle.run_model.specs.declared.step.StepEntry.{StepEntry}
use Rattle.run_model.specs.Locals.{Local, StandsIn}
use Rattle.run_model.specs.Runs.{InOrder, entries_at}
use Rattle.run_model.specs.Sound.{IsSettled}
use Rattle.run_model.specs.Worlds.{Sending, World}
use Rattle.local_runs.specs.Alone.{AreAlone, RunsAlone}
use Rattle.local_runs.specs.Handed.{IsRefused}
use Rattle.local_runs.specs.Laws.{AloneIsTogether}
use Rattle.replica_course.specs.Courses.{local_of}
use Rattle.replica_course.specs.declared.course.Course.{Course}
use Rattle.replica_node.specs.Laws.{AreClosed, AreJoined, AreOneRun, ClosedIsOneRun}

-- a replica that ran by itself
abbrev HasRun : Setup → (ℕ → ℕ → List Message) → (ℕ → ℕ → List Message) → ℕ → Course → Type 0
HasRun setup taken put me c = (sendings : List Sending) × RunsAlone setup me c.first_up (taken me) (put me) c.entries (local_of setup.replicas sendings c)

-- how each stands
record Lasts (setup : Setup) (taken put : ℕ → ℕ → List Message) (me : ℕ) (courses : List Course) : Type 0 where
  lasts : List Local
  whole : length lasts ≡ length courses
  each : (k : ℕ) (c : Course) (l : Local) → slice_get courses k ≡ Some c → slice_get lasts k ≡ Some l → (sendings : List Sending) × (l ≡ local_of setup.replicas sendings c) × RunsAlone setup (me + k) c.first_up (taken (me + k)) (put (me + k)) c.entries l

-- the first of them, and those behind
lasts_more : (setup : Setup) (taken put : ℕ → ℕ → List Message) (me : ℕ) (c : Course) (courses : List Course) → HasRun setup taken put me c → Lasts setup taken put (me + 1) courses → Lasts setup taken put me (c ∷ courses)
lasts_more setup taken put me c courses one rest = record {
  lasts = first ∷ rest.lasts;
  whole = ap suc rest.whole;
  each = place;
}
  where
    first : Local
    first = local_of setup.replicas one.0 c

    place : (k : ℕ) (d : Course) (l : Local) → slice_get (c ∷ courses) k ≡ Some d → slice_get (first ∷ rest.lasts) k ≡ Some l
        → (sendings : List Sending) × (l ≡ local_of setup.replicas sendings d) × RunsAlone setup (me + k) d.first_up (taken (me + k)) (put (me + k)) d.entries l
    place zero d l at there =
        let same : c ≡ d = same_Some c d at in
        let is : first ≡ l = same_Some first l there in (
          one.0,
          sym is ∙ ap (local_of setup.replicas one.0) same,
          subst (λ i. RunsAlone setup i d.first_up (taken i) (put i) d.entries l) (omega arith)
              (subst (λ (x : Local). RunsAlone setup me d.first_up (taken me) (put me) d.entries x) is (subst (λ (x : Course). RunsAlone setup me x.first_up (taken me) (put me) x.entries first) same one.1)),
        )
    place (suc k) d l at there =
        let its = rest.each k d l at there in
        (its.0, its.1, subst (λ i. RunsAlone setup i d.first_up (taken i) (put i) d.entries l) (omega arith) its.2)

lasts_of : (setup : Setup) (taken put : ℕ → ℕ → List Message) (me : ℕ) (courses : List Course) → ((k : ℕ) (c : Course) → slice_get courses k ≡ Some c → HasRun setup taken put (me + k) c) → Lasts setup taken put me courses
lasts_of setup taken put me [] each = record { lasts = []; whole = refl; each = λ k c l at there. absurd cc }
lasts_of setup taken put me (c ∷ courses) each =
    lasts_more setup taken put me c courses (subst (λ i. HasRun setup taken put i c) (omega arith) (each 0 c refl))
    (lasts_of setup taken put (me + 1) courses (λ k d at. subst (λ i. HasRun setup taken put i d) (omega arith) (each (suc k) d at)))

some_at : {X : Type 0} (xs : List X) (k : ℕ) → k < length xs → (x : X) × (slice_get xs k ≡ Some x)
some_at [] k lt = absurd (omega (arith, lt))
some_at (x ∷ xs) zero lt = (x, refl)
some_at (x ∷ xs) (suc k) lt = some_at xs k (omega (arith, lt))

get_map : {X Y : Type 0} (f : X → Y) (xs : List X) (k : ℕ) (x : X) → slice_get xs k ≡ Some x → slice_get (map f xs) k ≡ Some (f x)
get_map f [] k x is = absurd cc
get_map f (y ∷ xs) zero x is = let same : y ≡ x = cc in ap (λ z. Some (f z)) same
get_map f (y ∷ xs) (suc k) x is = get_map f xs k x is

-- what holds of the entries of each replica holds of all
all_of : (P : StepEntry → Type 0) (n : ℕ) (entries : List StepEntry) → AllByRecursion (λ e. e.replica < n) entries → ((me : ℕ) → me < n → AllByRecursion P (entries_at me entries)) → AllByRecursion P entries
all_of P n [] within each = tt
all_of P n (e ∷ entries) within each = (first (eqb e.replica e.replica) (eq-eqb e.replica e.replica refl) (each e.replica within.0), all_of P n entries within.1 (λ me lt. behind me (eqb e.replica me) (each me lt)))
  where
    first : (b : Bool) → b ≡ true → AllByRecursion P (cond b (e ∷ entries_at e.replica entries) (entries_at e.replica entries)) → P e
    first true is all = all.0
    first false is all = absurd cc

    behind : (me : ℕ) (b : Bool) → AllByRecursion P (cond b (e ∷ entries_at me entries) (entries_at me entries)) → AllByRecursion P (entries_at me entries)
    behind me true all = all.1
    behind me false all = all

pub closed_one_run : AloneIsTogether → ClosedIsOneRun
closed_one_run law setup courses taken put entries settled few closed joined =
    let n : ℕ = setup.replicas in
    let ups : List Bool = map (λ (c : Course). c.first_up) courses in
    let made : Lasts setup taken put 0 courses = lasts_of setup taken put 0 courses (λ k c at. subst (λ i. HasRun setup taken put i c) (omega arith) (closed.each k c at)) in
    let last_at : (me : ℕ) (c : Course) (l : Local) → slice_get courses me ≡ Some c → slice_get made.lasts me ≡ Some l → (sendings : List Sending) × (l ≡ local_of setup.replicas sendings c) × RunsAlone setup me c.first_up (taken me) (put me) c.entries l = λ me c l at there.
    let its = made.each me c l at there in
    (its.0, its.1, subst (λ i. RunsAlone setup i c.first_up (taken i) (put i) c.entries l) (omega arith) its.2) in
    let course_at : (me : ℕ) → me < n → (c : Course) × (slice_get courses me ≡ Some c) = λ me lt. some_at courses me (omega (arith, lt, closed.whole)) in
    let all : AreAlone setup ups taken put entries made.lasts = record {
      all = length-map courses (λ (c : Course). c.first_up) ∙ closed.whole;
      whole = made.whole ∙ closed.whole;
      within = joined.within;
      each = λ me up l is there.
          let lt = slice_get_within made.lasts me l there in
          let c = course_at me (omega (arith, lt, made.whole, closed.whole)) in
          let same : c.0.first_up ≡ up = same_Some c.0.first_up up (sym (get_map (λ (x : Course). x.first_up) courses me c.0 c.1) ∙ is) in
          subst (λ (es : List StepEntry). RunsAlone setup me up (taken me) (put me) es l) (sym (joined.each me c.0 c.1))
          (subst (λ b. RunsAlone setup me b (taken me) (put me) c.0.entries l) same (last_at me c.0 l c.1 there).2);
      passed = closed.passed;
      never_full = all_of (λ (e : StepEntry). (to : ℕ) → IsRefused to e → ⊥) n entries joined.within (λ me lt.
          let c = course_at me lt in
          subst (AllByRecursion (λ (e : StepEntry). (to : ℕ) → IsRefused to e → ⊥)) (sym (joined.each me c.0 c.1)) (closed.never_full me c.0 c.1));
    } in
    let run = law setup ups taken put entries made.lasts settled few joined.in_order all in (
      run.0,
      record {
        runs = run.1.runs;
        stand = λ me c there.
            let lt = slice_get_within courses me c there in
            let l = some_at made.lasts me (omega (arith, lt, made.whole)) in
            let its = last_at me c l.0 there l.1 in
            (its.0, subst (StandsIn run.0 me) its.1 (run.1.stand me l.0 l.1));
        bare = run.1.bare;
      },
    )
