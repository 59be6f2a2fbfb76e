-- The disks that storages leave.
use Rattle.std.specs.Prelude.{◌≡◌, ℕ, ◌≤◌, List, length, slice_get, IsTrue, Some}
use Rattle.ind_disk.specs.Disk.{Standing}
use Rattle.spec_model.specs.declared.plan.Setup.{Setup}
use Rattle.run_model.specs.declared.batch.Batch.{Batch}
use Rattle.run_model.specs.Worlds.{Running}
use Rattle.batch_storage.specs.Shown.{Shown, shown_of}
use Rattle.replica_course.specs.Courses.{IsCourse}
use Rattle.replica_course.specs.declared.course.Course.{Course}

-- the disk of a storage: its bytes are what may come back of the replica whose batches it kept
pub record IsDiskOf {S D : Type 0} (standing : D → Standing) (shows : S → Shown) (keeps : S → ℕ → List Batch → Running → Type 0) (comes_back : ℕ → List Batch → Running → List ℕ → Type 0) (s : S) (d : D) : Type 0 where
  pub journal : (n : ℕ) (batches : List Batch) (running : Running) → keeps s n batches running → IsTrue (shows s).tells → comes_back n batches running (standing d).bytes
  pub shown : shows s ≡ shown_of (standing d)

-- those of several
pub record AreDisksOf {S D : Type 0} (standing : D → Standing) (shows : S → Shown) (keeps : S → ℕ → List Batch → Running → Type 0) (comes_back : ℕ → List Batch → Running → List ℕ → Type 0) (storages : List S) (disks : List D) : Type 0 where
  pub whole : length disks ≡ length storages
  pub each : (k : ℕ) (s : S) (d : D) → slice_get storages k ≡ Some s → slice_get disks k ≡ Some d → IsDiskOf standing shows keeps comes_back s d

-- each replica can show how it stands
abbrev pub CanShow : Setup → List Course → Type 0
CanShow setup courses = (k : ℕ) (c : Course) → slice_get courses k ≡ Some c → IsCourse setup c.me c × (length c.entries ≤ 100000)
