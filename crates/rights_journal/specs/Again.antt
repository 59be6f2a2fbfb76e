-- What is left of a journal on a disk that has stopped.
use Rattle.std.specs.Prelude.{◌⊎◌, ℕ, List, Result, Ok, Err, IsTrue}
use Rattle.ind_disk.specs.Disk.{Standing}
use Rattle.run_model.specs.declared.batch.Batch.{Batch}
use Rattle.rights_journal.specs.declared.journal.Started.{Started}
use Rattle.rights_journal.specs.declared.journal.StartFailed.{StartFailed}

-- a disk that tells its bytes, on which each crash leaves the batches from before or those from after
pub record IsLeft (stands_for : List Batch → List ℕ → Type 0) (before after : List Batch) (s : Standing) (may_leave : List ℕ → Type 0) : Type 0 where
  pub tells : IsTrue s.tells
  pub each : (c : List ℕ) → may_leave c → stands_for before c ⊎ stands_for after c

-- the disk of a start, whatever it answered
abbrev pub disk_after : {J D : Type 0} → (J → D) → Result (Started J) (StartFailed D) → D
disk_after disk_of (Ok s) = disk_of s.journal
disk_after disk_of (Err e) = e.disk
