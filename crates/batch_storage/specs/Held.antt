-- A journal while its replica is up, and its disk while it is down.
use Rattle.std.specs.Prelude.{◌≡◌, ◌⊎◌, ℕ, List, length, Bool, true, false, Option, Some, None, IsTrue}
use Rattle.ind_disk.specs.Disk.{Standing}
use Rattle.run_model.specs.declared.batch.Batch.{Batch}
use Rattle.run_model.specs.Worlds.{Running, Up, Down}
use Rattle.rights_journal.specs.Image.{IsWithin}
use Rattle.batch_storage.specs.Shown.{Shown, shown_of}
use Rattle.batch_storage.specs.Found.{IsWith}
use Rattle.batch_storage.specs.declared.storage.Found.{Found}
use Rattle.batch_storage.specs.declared.storage.Found.TheVariants as found
use Rattle.batch_storage.specs.declared.held.Held.{Held}
use Rattle.batch_storage.specs.declared.held.Held.TheVariants as held

-- bytes of a journal of these batches, no longer than so many may be
pub record IsStored (finished : List Batch → List ℕ → Type 0) (batches : List Batch) (c : List ℕ) : Type 0 where
  pub whole : finished batches c
  pub short : IsWithin (length batches) c

-- bytes that stand for these batches, or for these and what is pending, and are no longer
pub record IsLeft (stands_for : List Batch → List ℕ → Type 0) (batches : List Batch) (pending : Option Batch) (c : List ℕ) : Type 0 where
  pub one : (found : List Batch) × ((found ≡ batches) ⊎ IsWith found batches pending) × stands_for found c
  pub short : IsWithin (length batches) c

-- what a replica leaves on its disk: up, a finished journal of the batches that it kept; down, what stands for these, or for these and what is pending
abbrev pub IsLeftBy : (List Batch → List ℕ → Type 0) → (List Batch → List ℕ → Type 0) → List Batch → Running → List ℕ → Type 0
IsLeftBy finished stands_for batches Up c = finished batches c
IsLeftBy finished stands_for batches (Down pending) c = IsLeft stands_for batches pending c

-- a live journal among n replicas, whose disk has P where it tells its bytes
pub record IsUp (live : Bool) (is_kept : Type 0) (replicas n : ℕ) (s : Standing) (P : List ℕ → Type 0) : Type 0 where
  pub alive : live ≡ true
  pub kept : is_kept
  pub among : replicas ≡ n
  pub stored : IsTrue s.tells → P s.bytes

-- a disk on which, where it tells its bytes, each crash leaves what has P
abbrev pub IsDown : Standing → (List ℕ → Type 0) → (List ℕ → Type 0) → Type 0
IsDown s may_leave P = IsTrue s.tells → (c : List ℕ) → may_leave c → P c

-- what holds of the journal while the replica is up, and of the disk while it is down
abbrev pub IsHeld : {J D : Type 0} → (J → Type 0) → (D → Option Batch → Type 0) → Running → Held J D → Type 0
IsHeld up down Up (held.Journal j) = up j
IsHeld up down Up (held.Disk d) = ⊥
IsHeld up down (Down pending) (held.Journal j) = ⊥
IsHeld up down (Down pending) (held.Disk d) = down d pending

-- the disk, wherever it is
abbrev pub disk_in : {J D : Type 0} → (J → D) → Held J D → D
disk_in disk_of (held.Journal j) = disk_of j
disk_in disk_of (held.Disk d) = d

-- a journal in which this was found stays, or gives its disk back
abbrev pub held_where : {J D : Type 0} → (J → D) → J → Found → Held J D
held_where disk_of j found.Broken = held.Disk (disk_of j)
held_where disk_of j found.Without = held.Journal j
held_where disk_of j found.With = held.Journal j

-- what is seen of the disk, where there is one
abbrev pub seen_of : {J D : Type 0} → (J → D) → (D → Standing) → Option (Held J D) → Shown
seen_of disk_of standing None = record { tells = false; tells_stops = false; stops_left = 0; faults = 0 }
seen_of disk_of standing (Some h) = shown_of (standing (disk_in disk_of h))
