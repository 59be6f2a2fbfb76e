-- What calls of a storage do to the batches that it keeps.
use Rattle.std.specs.Prelude.{◌≡◌, List, [], ◌∷◌, ◌++◌, Bool, true, false, Option, Some}
use Rattle.run_model.specs.declared.batch.Batch.{Batch}
use Rattle.run_model.specs.Worlds.{Running, Up, Down}
use Rattle.batch_storage.specs.declared.storage.Found.{Found}
use Rattle.batch_storage.specs.declared.storage.Found.TheVariants as found

-- the batch is kept; or the disk failed, and it is pending
abbrev pub KeepsBatch : (List Batch → Running → Type 0) → List Batch → Batch → Bool → Type 0
KeepsBatch keeps batches batch true = keeps (batches ++ batch ∷ []) Up
KeepsBatch keeps batches batch false = keeps batches (Down (Some batch))

-- whatever was kept is kept still
abbrev pub StillKeeps : (List Batch → Running → Type 0) → (List Batch → Running → Type 0) → Type 0
StillKeeps old new = (batches : List Batch) (running : Running) → old batches running → new batches running

-- what a start finds: all as it was, since the disk failed; the batches without what was pending; or with it
abbrev pub KeepsFound : (List Batch → Running → Type 0) → List Batch → Option Batch → Found → Type 0
KeepsFound keeps batches pending found.Broken = keeps batches (Down pending)
KeepsFound keeps batches pending found.Without = keeps batches Up
KeepsFound keeps batches pending found.With = (batch : Batch) × (pending ≡ Some batch) × keeps (batches ++ batch ∷ []) Up
