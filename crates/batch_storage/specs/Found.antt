-- What batches are to those that were kept.
use Rattle.std.specs.Prelude.{◌≡◌, ◌⊎◌, List, [], ◌∷◌, ◌++◌, Bool, true, false, Option, Some}
use Rattle.run_model.specs.declared.batch.Batch.{Batch}
use Rattle.batch_storage.specs.declared.storage.Found.{Found}
use Rattle.batch_storage.specs.declared.storage.Found.TheVariants as found

-- these batches, and behind them the one that is pending
abbrev pub IsWith : List Batch → List Batch → Option Batch → Type 0
IsWith batches kept pending = (batch : Batch) × (pending ≡ Some batch) × (batches ≡ kept ++ batch ∷ [])

-- they are those; or those and what is pending; or neither
abbrev pub IsFound : List Batch → List Batch → Option Batch → Found → Type 0
IsFound batches kept pending found.Without = batches ≡ kept
IsFound batches kept pending found.With = IsWith batches kept pending
IsFound batches kept pending found.Broken = (batches ≡ kept) ⊎ IsWith batches kept pending → ⊥

-- a replica is up after a start that found what was sought
abbrev pub up_where : Found → Bool
up_where found.Broken = false
up_where found.Without = true
up_where found.With = true
