-- What a stream of bytes has left and holds, where it tells.
use Rattle.std.specs.Prelude.{◌≡◌, ℕ, ◌+◌, ◌≤◌, ◌<◌, List, length, take, Result, IfOk, Some, None}
use Rattle.std.specs.declared.option.Option.{Option}
use Rattle.std.specs.Io.KnownBytes.{Appends, Consumes}

-- just so many bytes were taken
abbrev pub ConsumesJust : Option (List ℕ) → Option (List ℕ) → ℕ → Type 0
ConsumesJust old new n = (taken : List ℕ) × (length taken ≡ n) × Consumes old new taken

-- at most so many bytes were taken
abbrev pub ConsumesWithin : Option (List ℕ) → Option (List ℕ) → ℕ → Type 0
ConsumesWithin old new n = (taken : List ℕ) × (length taken ≤ n) × Consumes old new taken

-- a write of a piece that isn't empty takes a byte or more
abbrev pub TakesSome : {E : Type 0} → Result ℕ E → List ℕ → Type 0
TakesSome result piece = IfOk result (λ n. (n ≤ length piece) × (0 < length piece → 0 < n))

-- it tells that more than n bytes are left
abbrev pub TellsOver : ℕ → Option (List ℕ) → Type 0
TellsOver n None = ⊥
TellsOver n (Some left) = n < length left

-- it tells that at most n bytes are left
abbrev pub TellsWithin : ℕ → Option (List ℕ) → Type 0
TellsWithin n None = ⊥
TellsWithin n (Some left) = length left ≤ n

-- a front of the bytes was taken, by calls of which each but the last took one or more
pub record ReadsInTurns (old new : Option (List ℕ)) (before now limit : ℕ) : Type 0 where
  pub taken : List ℕ
  pub consumed : Consumes old new taken
  pub within : length taken ≤ limit + 1
  pub turns : now ≤ before + length taken + 1
  pub in_all : now ≤ before + limit + 1

-- a front of the bytes went out, by calls of which each but a failing last one put out one or more
pub record WritesInTurns (old new : Option (List ℕ)) (bytes : List ℕ) (before now : ℕ) : Type 0 where
  pub sent : ℕ
  pub within : sent ≤ length bytes
  pub out : Appends old new (take sent bytes)
  pub turns : now ≤ before + sent + 1
  pub in_all : now ≤ before + length bytes
