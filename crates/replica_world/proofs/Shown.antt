-- How replicas end, and the disks that are left.
use Rattle.std.proofs.Common.{◌≡◌, inl, inr, ℕ, ◌+◌, ◌≤◌, List, [], ◌∷◌, ◌++◌, length, refl, sym, ap, subst, ◌∙◌, arith}
use Rattle.std.specs.Prelude.{slice_get, Some, IsTrue, Bool}
use Rattle.std.proofs.lemmas.List.{length-append}
use Rattle.std.proofs.lemmas.Option.{slice_get_within}
use Rattle.ind_disk.specs.Disk.{Standing}
use Rattle.spec_model.specs.declared.plan.Setup.{Setup}
use Rattle.run_model.specs.declared.batch.Batch.{Batch}
use Rattle.run_model.specs.declared.step.Order.{Order}
use Rattle.run_model.specs.Worlds.{Running}
use Rattle.run_model.proofs.Lists.{get_push}
use Rattle.batch_storage.specs.Shown.{Shown}
use Rattle.replica_course.specs.Courses.{IsCourse, running_of}
use Rattle.replica_course.specs.declared.course.Course.{Course}
use Rattle.replica_course.specs.declared.heard.Heard.{Heard}
use Rattle.replica_world.specs.Ended.{AreDisksOf, CanShow, IsDiskOf}
use Rattle.replica_world.specs.Worlds.{AreKept, AreRunning, IsHere}
use Rattle.replica_world.proofs.Begun.{some_at, yielded_more}
use Rattle.replica_world.proofs.Running.{few_entries}

placed : {X : Type 0} (front : List X) (x : X) (behind : List X) → slice_get (front ++ x ∷ behind) (length front) ≡ Some x
placed [] x behind = refl
placed (f ∷ front) x behind = placed front x behind

-- the next one behind those in front
pub next_there : {X : Type 0} (xs front left behind : List X) (x : X) → front ++ left ≡ xs → left ≡ x ∷ behind → slice_get xs (length front) ≡ Some x
next_there xs front left behind x all split = ap (λ ys. slice_get ys (length front)) (sym all ∙ ap (λ ys. front ++ ys) split) ∙ placed front x behind

pub can_show : (setup : Setup) (done : List Order) (courses : List Course) (links : List (List Heard)) → AreRunning setup done courses links → length done ≤ 100000 → CanShow setup courses
can_show setup done courses links h few k c is =
    let at : IsHere setup (length done) h.entries h.world k c = h.each k c is in
    (subst (λ i. IsCourse setup i c) (sym at.own.me_is) at.own, omega (arith, few_entries setup done courses links k c h is, few))

-- ---- the disks

pub disks_none : {S D : Type 0} (standing : D → Standing) (shows : S → Shown) (keeps : S → ℕ → List Batch → Running → Type 0) (comes_back : ℕ → List Batch → Running → List ℕ → Type 0) → AreDisksOf standing shows keeps comes_back [] []
disks_none standing shows keeps comes_back = record { whole = refl; each = λ k s d is at. absurd cc }

pub disks_more : {S D : Type 0} (standing : D → Standing) (shows : S → Shown) (keeps : S → ℕ → List Batch → Running → Type 0) (comes_back : ℕ → List Batch → Running → List ℕ → Type 0) (storages : List S) (disks : List D) (s : S) (d : D) → AreDisksOf standing shows keeps comes_back storages disks
    → IsDiskOf standing shows keeps comes_back s d → AreDisksOf standing shows keeps comes_back (storages ++ s ∷ []) (disks ++ d ∷ [])
disks_more standing shows keeps comes_back storages disks s d h one = record {
  whole = length-append disks (d ∷ []) ∙ ap (λ n. n + 1) h.whole ∙ sym (length-append storages (s ∷ []));
  each = λ k t e is at. elim (get_push storages s k t is) [
    | inl old ↦ elim (get_push disks d k e at) [
      | inl old_disk ↦ h.each k t e old old_disk
      | inr last ↦ absurd (omega (arith, slice_get_within storages k t old, last.0, h.whole))
    ]
    | inr last ↦ elim (get_push disks d k e at) [
      | inl old_disk ↦ absurd (omega (arith, slice_get_within disks k e old_disk, last.0, h.whole))
      | inr last_disk ↦ subst (λ x. IsDiskOf standing shows keeps comes_back x e) last.1 (subst (λ x. IsDiskOf standing shows keeps comes_back s x) last_disk.1 one)
    ]
  ];
}

-- the disk of the next storage
pub disks_next : {S D : Type 0} (standing : D → Standing) (shows : S → Shown) (keeps : S → ℕ → List Batch → Running → Type 0) (comes_back : ℕ → List Batch → Running → List ℕ → Type 0) (storages front left behind : List S) (disks more : List D) (s : S) (d : D) → front ++ left ≡ storages → left ≡ s ∷ behind → more ≡ disks ++ d ∷ []
    → AreDisksOf standing shows keeps comes_back front disks → IsDiskOf standing shows keeps comes_back s d → ((front ++ s ∷ []) ++ behind ≡ storages) × AreDisksOf standing shows keeps comes_back (front ++ s ∷ []) more
disks_next standing shows keeps comes_back storages front left behind disks more s d all split are h one =
    (yielded_more storages front left behind s all split, subst (AreDisksOf standing shows keeps comes_back (front ++ s ∷ [])) (sym are) (disks_more standing shows keeps comes_back front disks s d h one))

-- what comes back of a replica is what it may leave
pub journal_at : {S D : Type 0} (standing : D → Standing) (shows : S → Shown) (keeps : S → ℕ → List Batch → Running → Type 0) (comes_back : ℕ → List Batch → Running → List ℕ → Type 0) (setup : Setup) (courses : List Course) (storages : List S) (disks : List D)
    → AreKept keeps setup courses storages → AreDisksOf standing shows keeps comes_back storages disks
    → (me : ℕ) (c : Course) (d : D) → slice_get courses me ≡ Some c → slice_get disks me ≡ Some d → IsTrue (standing d).tells → comes_back setup.replicas c.kept (running_of c) (standing d).bytes
journal_at standing shows keeps comes_back setup courses storages disks kept are me c d is at tells =
    let s = some_at storages me (omega (arith, slice_get_within courses me c is, kept.whole)) in
    let one : IsDiskOf standing shows keeps comes_back s.0 d = are.each me s.0 d s.1 at in
    one.journal setup.replicas c.kept (running_of c) (kept.each me c s.0 is s.1) (subst (λ (b : Bool). IsTrue b) (sym (ap (λ (x : Shown). x.tells) one.shown)) tells)
