-- What the readers answer.
use Rattle.std.specs.Prelude.{◌≡◌, ℕ, List, ◌++◌, length, take}
use Rattle.rights_journal.specs.declared.reading.Refusal.{Refusal}
use Rattle.rights_journal.specs.declared.reading.Refusal.TheVariants as refusals
use Rattle.rights_journal.specs.Image.{IsFinished, opened}
use Rattle.run_model.specs.declared.batch.Batch.{Batch}

-- a finished journal of these batches, with its closed gate at this place
abbrev pub IsRead : ℕ → List Batch → ℕ → List ℕ → Type 0
IsRead replicas batches gate c = IsFinished replicas batches c × (gate ≡ length (opened replicas batches))

-- a place that is refused has P
abbrev pub RefusesAt : (ℕ → Type 0) → Refusal → Type 0
RefusesAt P refusals.Memory = Unit {0}
RefusesAt P (refusals.Foreign at) = P at

-- so many of the batches that were known, and others behind them
abbrev pub known_and : ℕ → List Batch → List Batch → List Batch
known_and same known others = take same known ++ others
