-- Entries of several replicas in one order.
use Rattle.std.specs.Prelude.{◌≡◌, ◌≢◌, ◌⊎◌, ℕ, ◌<◌, List, [], ◌∷◌, length, slice_get, Some}
use Rattle.std.specs.List.{AllByRecursion}
use Rattle.run_model.specs.declared.step.StepEntry.{StepEntry}
use Rattle.run_model.specs.declared.history.History.{History}
use Rattle.run_model.specs.Runs.{InOrder, entries_at}

-- all entries are of this replica
abbrev pub AreOf : ℕ → List StepEntry → Type 0
AreOf me entries = AllByRecursion (λ e. e.replica ≡ me) entries

-- the history at each place is that of the replica with this number: its own entries, in order
pub record AreHistories (histories : List History) : Type 0 where
  pub replica : (i : ℕ) (h : History) → slice_get histories i ≡ Some h → h.replica ≡ i
  pub own : (i : ℕ) (h : History) → slice_get histories i ≡ Some h → AreOf i h.entries
  pub in_order : (i : ℕ) (h : History) → slice_get histories i ≡ Some h → InOrder h.entries

-- all entries of the histories in one order, and no others
pub record IsMerged (histories : List History) (entries : List StepEntry) : Type 0 where
  pub in_order : InOrder entries
  pub below : AllByRecursion (λ e. e.replica < length histories) entries
  pub each : (i : ℕ) (h : History) → slice_get histories i ≡ Some h → entries_at i entries ≡ h.entries

-- c has the entries of a and of b, each in their order
abbrev pub Merges : List StepEntry → List StepEntry → List StepEntry → Type 0
Merges a b [] = (a ≡ []) × (b ≡ [])
Merges a b (e ∷ c) = ((rest : List StepEntry) × (a ≡ e ∷ rest) × Merges rest b c) ⊎ ((rest : List StepEntry) × (b ≡ e ∷ rest) × Merges a rest c)

-- no replica has entries in both
abbrev pub AreApart : List StepEntry → List StepEntry → Type 0
AreApart a b = AllByRecursion (λ e. AllByRecursion (λ f. e.replica ≢ f.replica) b) a
