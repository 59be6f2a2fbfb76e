-- What a list of bytes is to a journal: unfinished, finished with its batches, or foreign with a place.
use Rattle.std.specs.Prelude.{◌≡◌, ◌≢◌, ◌⊎◌, ℕ, ◌+◌, ◌*◌, ◌≤◌, List, [], ◌∷◌, ◌++◌, length}
use Rattle.std.specs.List.{flat_map, AllByRecursion}
use Rattle.std.specs.Int.{w32, to_be_bytes}
use Rattle.run_model.specs.declared.batch.Batch.{Batch}
use Rattle.rights_journal.specs.Batches.{IsSpelled, text_of}

-- a gate, and anything behind it
abbrev pub Behind : List ℕ → ℕ → List ℕ → Type 0
Behind front gate c = (more : List ℕ) × (c ≡ front ++ gate ∷ more)

-- any gate, and these bytes behind it
abbrev pub Gated : List ℕ → List ℕ → List ℕ → Type 0
Gated front frame c = (gate : ℕ) × (more : List ℕ) × (c ≡ front ++ gate ∷ (frame ++ more))

-- what a crash leaves while a frame is put behind a closed gate and the gate is opened
pub record IsBetween (front : List ℕ) (closed : ℕ) (frame : List ℕ) (longest : ℕ) (c : List ℕ) : Type 0 where
  pub size : length c ≤ longest
  pub gate : Behind front closed c ⊎ Gated front frame c

-- the text INDIGOJ1
abbrev pub magic : List ℕ
magic = 73 ∷ 78 ∷ 68 ∷ 73 ∷ 71 ∷ 79 ∷ 74 ∷ 49 ∷ []

-- the length of a batch's bytes, and these bytes
abbrev pub sized : List ℕ → List ℕ
sized bytes = to_be_bytes w32 (length bytes) ++ bytes

-- an open frame for each batch
abbrev pub frames : ℕ → List Batch → List ℕ
frames replicas batches = flat_map (λ b. 1 ∷ sized (text_of replicas b)) batches

-- the header with its gate open, and these frames
abbrev pub opened : ℕ → List Batch → List ℕ
opened replicas batches = (1 ∷ magic) ++ frames replicas batches

-- a finished journal of these batches: a closed gate stands behind their frames, and what follows it has no meaning
pub record IsFinished (replicas : ℕ) (batches : List Batch) (c : List ℕ) : Type 0 where
  pub gate : ℕ
  pub rest : List ℕ
  pub bytes : c ≡ opened replicas batches ++ gate ∷ rest
  pub closed : gate ≢ 1
  pub each : AllByRecursion (IsSpelled replicas) batches

-- a journal whose header isn't yet there: at most one byte; or a closed gate and at most nine bytes; or ten
-- bytes, the magic between two closed gates
abbrev pub IsUnfinished : List ℕ → Type 0
IsUnfinished c = (length c ≤ 1)
    ⊎ ((rest : List ℕ) × (c ≡ 0 ∷ rest) × (length rest ≤ 9))
    ⊎ ((first last : ℕ) × (c ≡ (first ∷ magic) ++ last ∷ []) × (first ≢ 1) × (last ≢ 1))

-- the batches that the bytes stand for; of an unfinished journal there are none
abbrev pub StandsFor : ℕ → List Batch → List ℕ → Type 0
StandsFor replicas batches c = (IsUnfinished c × (batches ≡ [])) ⊎ IsFinished replicas batches c

-- no length, batch and gate stand here
abbrev pub NoFrame : ℕ → List ℕ → Type 0
NoFrame replicas rest = (b : Batch) (gate : ℕ) (more : List ℕ) → IsSpelled replicas b → rest ≡ sized (text_of replicas b) ++ gate ∷ more → ⊥

-- an open header, with a gate behind it
abbrev pub HasHeader : List ℕ → Type 0
HasHeader c = (gate : ℕ) × (more : List ℕ) × (c ≡ (1 ∷ magic) ++ gate ∷ more)

-- no open header with a gate behind it
abbrev pub NoHeader : List ℕ → Type 0
NoHeader c = (gate : ℕ) (more : List ℕ) → c ≡ (1 ∷ magic) ++ gate ∷ more → ⊥

-- behind the frames of some batches stands an open gate, at this place, and no frame behind it
pub record IsBroken (replicas : ℕ) (at : ℕ) (c : List ℕ) : Type 0 where
  pub batches : List Batch
  pub rest : List ℕ
  pub each : AllByRecursion (IsSpelled replicas) batches
  pub bytes : c ≡ opened replicas batches ++ 1 ∷ rest
  pub place : at ≡ length (opened replicas batches)
  pub nothing : NoFrame replicas rest

-- foreign at 0 where there is no header, else at the first open gate behind which no frame stands
abbrev pub IsForeign : ℕ → ℕ → List ℕ → Type 0
IsForeign replicas at c = ((at ≡ 0) × (IsUnfinished c → ⊥) × NoHeader c) ⊎ IsBroken replicas at c

-- no longer than a journal of so many batches and one lost frame
abbrev pub IsWithin : ℕ → List ℕ → Type 0
IsWithin count c = length c ≤ 64 + 7000 * (count + 1)
