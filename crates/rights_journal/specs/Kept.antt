-- A live journal, and what its calls do to its disk.
use Rattle.std.specs.Prelude.{◌≡◌, ◌<◌, ◌≤◌, ℕ, List, false, IsTrue}
use Rattle.ind_disk.specs.Disk.{Standing, Only, Rises}
use Rattle.rights_journal.specs.Reading.{IsRead}
use Rattle.run_model.specs.declared.batch.Batch.{Batch}

-- a live journal: its disk is finished with some batches and their closed gate at this place, nothing is
-- pending, and the disk isn't stopped
pub record IsKept (replicas : ℕ) (s : Standing) (may_leave : List ℕ → Type 0) (gate : ℕ) : Type 0 where
  pub inside : gate < s.size
  pub settled : Only s.bytes may_leave
  pub finished : IsTrue s.tells → (batches : List Batch) × IsRead replicas batches gate s.bytes
  pub awake : IsTrue s.tells_stops → s.is_stopped ≡ false

-- What holds of each call of a journal. It fails only where the disk's count of faults rose and, on a disk
-- that tells its stops and wasn't stopped, where a stop was spent; only such a call stops the disk.
pub record Spends (old new : Standing) (fails : Type 0) : Type 0 where
  pub tells : new.tells ≡ old.tells
  pub tells_stops : new.tells_stops ≡ old.tells_stops
  pub faults : old.faults ≤ new.faults
  pub failed : fails → Rises old.faults new.faults
  pub no_more_stops : new.stops_left ≤ old.stops_left
  pub spent : IsTrue old.tells_stops → old.is_stopped ≡ false → fails → new.stops_left < old.stops_left
  pub stopped : IsTrue old.tells_stops → old.is_stopped ≡ false → IsTrue new.is_stopped → fails
