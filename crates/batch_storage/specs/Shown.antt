-- What a replica sees of the disk that keeps its batches.
use Rattle.std.specs.Prelude.{◌≡◌, ◌<◌, ◌≤◌, ℕ, Bool, false, IsTrue}
use Rattle.ind_disk.specs.Disk.{Standing, Rises}

-- whether it tells its bytes, whether it tells its stops and how many are left, and its faults
pub record Shown : Type 0 where
  pub tells : Bool
  pub tells_stops : Bool
  pub stops_left : ℕ
  pub faults : ℕ

abbrev pub shown_of : Standing → Shown
shown_of s = record { tells = s.tells; tells_stops = s.tells_stops; stops_left = s.stops_left; faults = s.faults }

-- a disk that tells its stops isn't stopped
abbrev pub IsAwake : Standing → Type 0
IsAwake s = IsTrue s.tells_stops → s.is_stopped ≡ false

-- what a call costs, and when it fails: over a disk that tells its bytes only where the count of faults rose and, if the disk tells its stops, a stop was spent. A disk that doesn't tell its bytes may hold what no journal left, and nothing is said of when a call over it fails
pub record Costs (old new : Shown) (fails : Type 0) : Type 0 where
  pub tells : new.tells ≡ old.tells
  pub tells_stops : new.tells_stops ≡ old.tells_stops
  pub faults : old.faults ≤ new.faults
  pub no_more_stops : new.stops_left ≤ old.stops_left
  pub failed : fails → IsTrue old.tells → Rises old.faults new.faults
  pub spent : fails → IsTrue old.tells → IsTrue old.tells_stops → new.stops_left < old.stops_left
