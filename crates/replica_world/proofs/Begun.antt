-- Replicas and links before the first line of a schedule.
use Rattle.std.proofs.Common.{◌≡◌, inl, inr, ℕ, zero, suc, ◌+◌, ◌<◌, ◌≤◌, List, [], ◌∷◌, ◌++◌, length, replicate, refl, sym, ap, subst, ◌∙◌, arith}
use Rattle.std.specs.Prelude.{slice_get, slice_index_or, Some, map, Bool, true, false, IsTrue}
use Rattle.std.specs.List.{AllByRecursion}
use Rattle.std.proofs.lemmas.List.{append-nil, append_assoc, length-append, length-map, length-replicate}
use Rattle.std.proofs.lemmas.Option.{slice_get_within}
use Rattle.ind_disk.specs.Bay.{TellsAll}
use Rattle.ind_disk.specs.Disk.{Standing as Disk}
use Rattle.spec_model.specs.declared.plan.Setup.{Setup}
use Rattle.run_model.specs.declared.batch.Batch.{Batch}
use Rattle.run_model.specs.declared.step.StepEntry.{StepEntry}
use Rattle.run_model.specs.Logs.{log_at}
use Rattle.run_model.specs.Worlds.{Running, Sending, first_running, first_standing, first_world, logs_of, sent_to}
use Rattle.run_model.specs.Runs.{InOrder}
use Rattle.run_model.specs.Locals.{Local, StandsIn, first_local}
use Rattle.run_model.proofs.Joined.{knows_nothing}
use Rattle.run_model.proofs.Lists.{get_push}
use Rattle.batch_storage.specs.Shown.{Costs, Shown, shown_of}
use Rattle.replica_course.specs.Courses.{IsFirst, local_of}
use Rattle.replica_course.specs.Steps.{heard_of}
use Rattle.replica_course.specs.declared.course.Course.{Course}
use Rattle.replica_course.specs.declared.heard.Heard.{Heard}
use Rattle.replica_world.specs.Begun.{HasBegun}
use Rattle.replica_world.specs.Links.{AreLinks, link_place, put_on, sendings_at}
use Rattle.replica_course.proofs.Spent.{first_stops}
use Rattle.replica_world.specs.Worlds.{AreKept, AreRunning, HasStopsAt, IsHere}
use Rattle.replica_world.proofs.Hand.{get_map}

-- one more of a list
pub yielded_more : {X : Type 0} (xs front left behind : List X) (x : X) → front ++ left ≡ xs → left ≡ x ∷ behind → (front ++ x ∷ []) ++ behind ≡ xs
yielded_more xs front left behind x all split = append_assoc front (x ∷ []) behind ∙ ap (λ ys. front ++ ys) (sym split) ∙ all

-- the first so many, on these disks
pub record AreBegun {S D : Type 0} (standing : D → Disk) (shows : S → Shown) (keeps : S → ℕ → List Batch → Running → Type 0) (setup : Setup) (disks : List D) (courses : List Course) (storages : List S) : Type 0 where
  pub courses_whole : length courses ≡ length disks
  pub storages_whole : length storages ≡ length disks
  pub each : (me : ℕ) (d : D) (c : Course) (s : S) → slice_get disks me ≡ Some d → slice_get courses me ≡ Some c → slice_get storages me ≡ Some s → HasBegun standing shows keeps setup me d c s

pub begun_none : {S D : Type 0} (standing : D → Disk) (shows : S → Shown) (keeps : S → ℕ → List Batch → Running → Type 0) (setup : Setup) → AreBegun standing shows keeps setup [] [] []
begun_none standing shows keeps setup = record { courses_whole = refl; storages_whole = refl; each = λ me d c s at is there. absurd cc }

pub begun_more : {S D : Type 0} (standing : D → Disk) (shows : S → Shown) (keeps : S → ℕ → List Batch → Running → Type 0) (setup : Setup) (disks : List D) (courses : List Course) (storages : List S) (d : D) (c : Course) (s : S) → AreBegun standing shows keeps setup disks courses storages
    → HasBegun standing shows keeps setup (length disks) d c s → AreBegun standing shows keeps setup (disks ++ d ∷ []) (courses ++ c ∷ []) (storages ++ s ∷ [])
begun_more standing shows keeps setup disks courses storages d c s h one = record {
  courses_whole = length-append courses (c ∷ []) ∙ ap (λ n. n + 1) h.courses_whole ∙ sym (length-append disks (d ∷ []));
  storages_whole = length-append storages (s ∷ []) ∙ ap (λ n. n + 1) h.storages_whole ∙ sym (length-append disks (d ∷ []));
  each = λ me e b t at is there. elim (get_push disks d me e at) [
    | inl old ↦ elim (get_push courses c me b is) [
      | inl old_course ↦ elim (get_push storages s me t there) [
        | inl old_storage ↦ h.each me e b t old old_course old_storage
        | inr last ↦ absurd (omega (arith, slice_get_within disks me e old, last.0, h.storages_whole))
      ]
      | inr last ↦ absurd (omega (arith, slice_get_within disks me e old, last.0, h.courses_whole))
    ]
    | inr last ↦ elim (get_push courses c me b is) [
      | inl old_course ↦ absurd (omega (arith, slice_get_within courses me b old_course, last.0, h.courses_whole))
      | inr last_course ↦ elim (get_push storages s me t there) [
        | inl old_storage ↦ absurd (omega (arith, slice_get_within storages me t old_storage, last.0, h.storages_whole))
        | inr last_storage ↦
            subst (λ i. HasBegun standing shows keeps setup i e b t) (sym last.0)
            (subst (λ x. HasBegun standing shows keeps setup (length disks) x b t) last.1
            (subst (λ (x : Course). HasBegun standing shows keeps setup (length disks) d x t) last_course.1 (subst (λ x. HasBegun standing shows keeps setup (length disks) d c x) last_storage.1 one)))
      ]
    ]
  ];
}

-- the next of these disks, and its replica
pub begun_next : {S D : Type 0} (standing : D → Disk) (shows : S → Shown) (keeps : S → ℕ → List Batch → Running → Type 0) (setup : Setup) (disks front left behind : List D) (courses more_courses : List Course) (storages more_storages : List S) (me : ℕ) (d : D) (c : Course) (s : S) → front ++ left ≡ disks
    → left ≡ d ∷ behind → me ≡ length front → more_courses ≡ courses ++ c ∷ [] → more_storages ≡ storages ++ s ∷ [] → AreBegun standing shows keeps setup front courses storages → HasBegun standing shows keeps setup me d c s
    → ((front ++ d ∷ []) ++ behind ≡ disks) × (me + 1 ≡ length (front ++ d ∷ [])) × AreBegun standing shows keeps setup (front ++ d ∷ []) more_courses more_storages
begun_next standing shows keeps setup disks front left behind courses more_courses storages more_storages me d c s all split at are_courses are_storages h one =
    let last : HasBegun standing shows keeps setup (length front) d c s = subst (λ i. HasBegun standing shows keeps setup i d c s) at one in (
      yielded_more disks front left behind d all split,
      omega (arith, at, length-append front (d ∷ [])),
      subst (λ (cs : List Course). AreBegun standing shows keeps setup (front ++ d ∷ []) cs more_storages) (sym are_courses)
          (subst (λ ss. AreBegun standing shows keeps setup (front ++ d ∷ []) (courses ++ c ∷ []) ss) (sym are_storages) (begun_more standing shows keeps setup front courses storages d c s h last)),
    )

-- ---- a list of one thing

all_same : {X : Type 0} (n k : ℕ) (x : X) → slice_index_or (replicate n x) k x ≡ x
all_same zero k x = refl
all_same (suc n) zero x = refl
all_same (suc n) (suc k) x = all_same n k x

pub some_at : {X : Type 0} (xs : List X) (k : ℕ) → k < length xs → (x : X) × (slice_get xs k ≡ Some x)
some_at [] k lt = absurd (omega (arith, lt))
some_at (x ∷ xs) zero lt = (x, refl)
some_at (x ∷ xs) (suc k) lt = some_at xs k (omega (arith, lt))

-- ---- the first world

no_sendings : (n : ℕ) (ups : List Bool) (me : ℕ) → sendings_at (first_world n ups) me ≡ []
no_sendings n [] me = refl
no_sendings n (up ∷ ups) zero = refl
no_sendings n (up ∷ ups) (suc me) = no_sendings n ups me

no_log : (n : ℕ) (ups : List Bool) (j : ℕ) → log_at (logs_of (first_world n ups)) j ≡ []
no_log n [] j = refl
no_log n (up ∷ ups) zero = refl
no_log n (up ∷ ups) (suc j) = no_log n ups j

first_stands : (n : ℕ) (ups : List Bool) (me : ℕ) (up : Bool) → slice_get ups me ≡ Some up → StandsIn (first_world n ups) me (first_local n up)
first_stands n ups me up is = record {
  is = get_map (first_standing n) ups me up is;
  long = length-replicate n [] ∙ sym (length-replicate n 0);
  knows = knows_nothing n (logs_of (first_world n ups));
}

first_here : (setup : Setup) (ups : List Bool) (me : ℕ) (up : Bool) (c : Course) → slice_get ups me ≡ Some up → IsFirst setup me up c → IsHere setup 0 [] (first_world setup.replicas ups) me c
first_here setup ups me up c at h =
    let n : ℕ = setup.replicas in
    let is : first_local n up ≡ local_of n (sendings_at (first_world n ups) me) c = sym h.stands ∙ ap (λ (l : List Sending). local_of n l c) (sym (no_sendings n ups me)) in
    record {
      own = h.own;
      stands = subst (StandsIn (first_world n ups) me) is (first_stands n ups me up at);
      entries_are = h.entries;
      in_order = subst InOrder (sym h.entries) tt;
      before = subst (AllByRecursion (λ (e : StepEntry). e.stamp ≤ c.stamp)) (sym h.entries) tt;
      stamp = omega (arith, ap (λ (l : Local). l.standing.stamp) h.stands);
    }

first_links : (setup : Setup) (ups : List Bool) → AreLinks setup [] (first_world setup.replicas ups) (replicate 256 [])
first_links setup ups =
    let none : (from to : ℕ) → put_on (replicate 256 []) from to ≡ [] = λ from to. all_same 256 (link_place from to) [] in
    record {
      whole = length-replicate {A = List Heard} 256 [];
      sent = λ from to f t. ap (λ (l : List Sending). map (λ (s : Sending). Some s) (sent_to to l)) (no_sendings setup.replicas ups from) ∙ sym (ap (map (heard_of to)) (none from to));
      counted = λ from to f t. ap length (none from to);
      each = λ from to k m f t is. let never : slice_get [] k ≡ Some m = ap (λ (l : List Heard). slice_get l k) (sym (none from to)) ∙ is in absurd (nowhere k m never);
    }
  where
    nowhere : (k : ℕ) (m : Heard) → slice_get [] k ≡ Some m → ⊥
    nowhere k m is = absurd cc

-- ---- all of it

pub none_left : {X : Type 0} (xs : List X) → length xs ≡ 0 → xs ≡ []
none_left [] is = refl
none_left (x ∷ xs) is = absurd (omega (arith, is))

-- none is left
pub yielded_all : {X : Type 0} (xs front left : List X) → front ++ left ≡ xs → left ≡ [] → front ≡ xs
yielded_all xs front left all none = sym (append-nil front) ∙ ap (λ ys. front ++ ys) (sym none) ∙ all

-- the replica, its disk and its storage
record IsOne {S D : Type 0} (standing : D → Disk) (shows : S → Shown) (keeps : S → ℕ → List Batch → Running → Type 0) (setup : Setup) (disks : List D) (me : ℕ) (c : Course) (s : S) : Type 0 where
  disk : D
  there : slice_get disks me ≡ Some disk
  begun : HasBegun standing shows keeps setup me disk c s

one_at : {S D : Type 0} (standing : D → Disk) (shows : S → Shown) (keeps : S → ℕ → List Batch → Running → Type 0) (setup : Setup) (disks : List D) (courses : List Course) (storages : List S) (me : ℕ) (c : Course) (s : S) → AreBegun standing shows keeps setup disks courses storages
    → slice_get courses me ≡ Some c → slice_get storages me ≡ Some s → IsOne standing shows keeps setup disks me c s
one_at standing shows keeps setup disks courses storages me c s h is there =
    let d = some_at disks me (omega (arith, slice_get_within courses me c is, h.courses_whole)) in
    record { disk = d.0; there = d.1; begun = h.each me d.0 c s d.1 is there }

-- replica me, over whatever storage it has
first_at : {S D : Type 0} (standing : D → Disk) (shows : S → Shown) (keeps : S → ℕ → List Batch → Running → Type 0) (setup : Setup) (disks : List D) (courses : List Course) (storages : List S) (me : ℕ) (c : Course) → AreBegun standing shows keeps setup disks courses storages
    → slice_get courses me ≡ Some c → (up : Bool) × IsFirst setup me up c
first_at standing shows keeps setup disks courses storages me c h is =
    let s = some_at storages me (omega (arith, slice_get_within courses me c is, h.courses_whole, h.storages_whole)) in
    let one = one_at standing shows keeps setup disks courses storages me c s.0 h is s.1 in
    (one.begun.up, one.begun.first)

pub first_run : {S D : Type 0} (standing : D → Disk) (shows : S → Shown) (keeps : S → ℕ → List Batch → Running → Type 0) (setup : Setup) (disks : List D) (courses : List Course) (storages : List S) (links : List (List Heard)) → AreBegun standing shows keeps setup disks courses storages
    → length disks ≡ setup.replicas → links ≡ replicate 256 [] → AreRunning setup [] courses links
first_run standing shows keeps setup disks courses storages links h whole is =
    let n : ℕ = setup.replicas in
    let ups : List Bool = map (λ (c : Course). c.first_up) courses in
    record {
      entries = [];
      world = first_world n ups;
      runs = refl;
      within = tt;
      fit = tt;
      asked = λ me. refl;
      whole = h.courses_whole ∙ whole;
      world_whole = length-map ups (first_standing n) ∙ length-map courses (λ (c : Course). c.first_up) ∙ h.courses_whole ∙ whole;
      each = λ me c at.
          let f = first_at standing shows keeps setup disks courses storages me c h at in
          first_here setup ups me f.0 c (get_map (λ (x : Course). x.first_up) courses me c at ∙ ap (λ b. Some b) f.1.first_up) f.1;
      short = λ j. omega (arith, ap length (no_log n ups j));
      linked = subst (AreLinks setup [] (first_world n ups)) (sym is) (first_links setup ups);
    }

pub first_kept : {S D : Type 0} (standing : D → Disk) (shows : S → Shown) (keeps : S → ℕ → List Batch → Running → Type 0) (setup : Setup) (disks : List D) (courses : List Course) (storages : List S) → AreBegun standing shows keeps setup disks courses storages → AreKept keeps setup courses storages
first_kept standing shows keeps setup disks courses storages h = record {
  whole = h.storages_whole ∙ sym h.courses_whole;
  each = λ me c s is there.
      let one = (one_at standing shows keeps setup disks courses storages me c s h is there).begun in
      let n : ℕ = setup.replicas in
      subst (λ r. keeps s n c.kept r) (sym (ap (λ (l : Local). l.standing.running) one.first.stands)) (subst (λ b. keeps s n b (first_running one.up)) (sym (ap (λ (l : Local). l.standing.kept) one.first.stands)) one.kept);
}

pub stops_first : {S D : Type 0} (standing : D → Disk) (shows : S → Shown) (keeps : S → ℕ → List Batch → Running → Type 0) (setup : Setup) (disks : List D) (courses : List Course) (storages : List S) → AreBegun standing shows keeps setup disks courses storages
    → (me given : ℕ) → ((d : D) → slice_get disks me ≡ Some d → TellsAll given (standing d)) → HasStopsAt shows courses storages me given
stops_first standing shows keeps setup disks courses storages h me given told c s is there =
    let one = one_at standing shows keeps setup disks courses storages me c s h is there in
    let all : TellsAll given (standing one.disk) = told one.disk one.there in
    first_stops given setup me one.begun.up c (shown_of (standing one.disk)) (shows s) all.tells all.tells_stops all.few one.begun.first (one.begun.costs (λ tells. all.awake))
