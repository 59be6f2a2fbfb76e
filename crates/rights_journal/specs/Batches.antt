-- Batches, and the bytes of each among so many replicas.
use Rattle.std.specs.Prelude.{◌≡◌, ℕ, List, [], ◌∷◌, length}
use Rattle.spec_model.specs.declared.log.LogItem.{LogItem}
use Rattle.run_model.specs.declared.batch.Batch.{Batch}
use Rattle.op_records.specs.Spelling.{IsBatch, batch_text}

-- a batch that has a spelling
abbrev pub IsSpelled : ℕ → Batch → Type 0
IsSpelled replicas batch = IsBatch replicas batch.items

-- its bytes
unfoldable pub text_of : ℕ → Batch → List ℕ
text_of replicas batch = batch_text replicas batch.items

-- the past of the first item tells how many replicas there are
abbrev pub FirstPast : ℕ → List LogItem → Type 0
FirstPast replicas [] = ⊥
FirstPast replicas (item ∷ items) = length item.deps ≡ replicas
