-- What an append may leave.
use Rattle.std.specs.Prelude.{◌⊎◌, ℕ, List, [], ◌∷◌, ◌++◌}
use Rattle.rights_journal.specs.Image.{sized, IsFinished}
use Rattle.run_model.specs.declared.batch.Batch.{Batch}
use Rattle.rights_journal.specs.Batches.{text_of}

-- a batch behind its length, and the next gate, closed
abbrev pub framed : ℕ → Batch → List ℕ
framed replicas batch = sized (text_of replicas batch) ++ 0 ∷ []

-- the batches from before, or these and the new one
abbrev pub IsBeforeOrAfter : ℕ → List Batch → Batch → List ℕ → Type 0
IsBeforeOrAfter replicas batches batch c = IsFinished replicas batches c ⊎ IsFinished replicas (batches ++ batch ∷ []) c
