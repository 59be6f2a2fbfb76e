-- A replica before its first step, with the storage that began on its disk.
use Rattle.std.specs.Prelude.{◌≡◌, ℕ, List, [], Bool, false}
use Rattle.ind_disk.specs.Disk.{Standing}
use Rattle.spec_model.specs.declared.plan.Setup.{Setup}
use Rattle.run_model.specs.declared.batch.Batch.{Batch}
use Rattle.run_model.specs.Worlds.{Running, first_running}
use Rattle.batch_storage.specs.Shown.{Costs, IsAwake, Shown, shown_of}
use Rattle.replica_course.specs.Courses.{IsFirst}
use Rattle.replica_course.specs.declared.course.Course.{Course}

-- replica me, up if its disk didn't fail
pub record HasBegun {S D : Type 0} (standing : D → Standing) (shows : S → Shown) (keeps : S → ℕ → List Batch → Running → Type 0) (setup : Setup) (me : ℕ) (disk : D) (c : Course) (s : S) : Type 0 where
  pub up : Bool
  pub first : IsFirst setup me up c
  pub kept : keeps s setup.replicas [] (first_running up)
  pub costs : IsAwake (standing disk) → Costs (shown_of (standing disk)) (shows s) (up ≡ false)
