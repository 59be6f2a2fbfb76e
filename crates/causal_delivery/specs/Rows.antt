-- Items of one log in a row, and pasts that were seen.
use Rattle.std.specs.Prelude.{◌≡◌, ◌≢◌, ℕ, ◌<◌, ◌≤◌, List, length, take, slice_index, slice_get, Some}
use Rattle.std.specs.List.{AllByRecursion}
use Rattle.spec_model.specs.declared.log.LogItem.{LogItem}
use Rattle.run_model.specs.Fitting.{AreInRow}

-- the items are of one of so many logs, in a row, and their pasts count the items of so many logs
pub record AreOfOne (replicas : ℕ) (items : List LogItem) : Type 0 where
  pub origin : ℕ
  pub first : ℕ
  pub place : origin < replicas
  pub row : AreInRow origin first items
  pub pasts : AllByRecursion (λ item. length item.deps ≡ replicas) items

-- the past lies in the cut, but for one place
abbrev pub IsSeenBut : List ℕ → List ℕ → ℕ → Type 0
IsSeenBut past cut own = (i : ℕ) → i ≢ own → slice_index past i ≤ slice_index cut i

-- the past of each of so many items was seen but for its own log, and that of the next one wasn't
pub record CountsReady (cut : List ℕ) (items : List LogItem) (count : ℕ) : Type 0 where
  pub within : count ≤ length items
  pub seen : AllByRecursion (λ item. IsSeenBut item.deps cut item.origin) (take count items)
  pub stuck : (item : LogItem) → slice_get items count ≡ Some item → IsSeenBut item.deps cut item.origin → ⊥
