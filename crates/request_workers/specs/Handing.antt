-- The disks that a bay hands out for a run and takes back.
use Rattle.std.specs.Prelude.{◌≡◌, ◌<◌, ◌≤◌, ℕ, List, [], ◌∷◌, ◌++◌, length, slice_get, Bool, IsTrue, Some}
use Rattle.std.specs.List.{AllByRecursion}
use Rattle.ind_disk.specs.Bay.{CameBack, IsEmpty, TellsAll, returned_of, with_one}
use Rattle.ind_disk.specs.Disk.{Standing}
use Rattle.ind_disk.specs.declared.stop.Stop.{Stop}
use Rattle.scenario_text.specs.declared.document.StopLine.{StopLine}
use Rattle.request_workers.specs.Histories.{stops_of}

-- the disks for the first so many replicas: empty, and if the bay is telling each with the stops that the lines name for it, and no other; none came back
pub record AreHanded {B D : Type 0} (standing : D → Standing) (may_leave : D → List ℕ → Type 0) (tells : B → Bool) (has_given : B → ℕ → Type 0) (given : B → ℕ → List (List Stop)) (left : B → ℕ → CameBack) (lines : List StopLine) (replicas : ℕ) (old new : B) (disks : List D) : Type 0 where
  pub whole : length disks ≡ replicas
  pub empty : AllByRecursion (λ d. IsEmpty (standing d) (may_leave d)) disks
  pub told : IsTrue (tells old) → (me : ℕ) (d : D) → slice_get disks me ≡ Some d → TellsAll (length (stops_of me lines)) (standing d)
  pub places : (r : ℕ) → r < replicas → has_given new r
  pub same : tells new ≡ tells old
  pub asked : IsTrue (tells old) → (r : ℕ) → r < replicas → given new r ≡ given old r ++ stops_of r lines ∷ []
  pub nothing_else : IsTrue (tells old) → (r : ℕ) → replicas ≤ r → given new r ≡ given old r
  pub nothing_back : IsTrue (tells old) → (r : ℕ) → left new r ≡ left old r

-- the first so many of these disks have come back, each for the replica at its place
pub record AreBack {B D : Type 0} (standing : D → Standing) (tells : B → Bool) (has_given : B → ℕ → Type 0) (given : B → ℕ → List (List Stop)) (left : B → ℕ → CameBack) (many : ℕ) (old new : B) (disks : List D) : Type 0 where
  pub same : tells new ≡ tells old
  pub places : (r : ℕ) → has_given old r → has_given new r
  pub asked : IsTrue (tells old) → (r : ℕ) → given new r ≡ given old r
  pub told : IsTrue (tells old) → (r : ℕ) (d : D) → r < many → slice_get disks r ≡ Some d → IsTrue (standing d).tells → IsTrue (standing d).tells_stops → left new r ≡ with_one (left old r) (returned_of (standing d))
  pub nothing_more : IsTrue (tells old) → (r : ℕ) → many ≤ r → left new r ≡ left old r
