-- What a store keeps of each atom and of each cell, and what one more item makes of it.
use Rattle.std.specs.Prelude.{◌≡◌, ℕ, zero, suc, ◌+◌, ◌-◌, ◌<◌, ◌^◌, max, min, List, [], ◌∷◌, length, replicate, slice_get, slice_index, slice_set, Bool, true, false, not, ◌&&◌, ◌||◌, ◌==◌, nat_lt, if◌then◌else◌, Option, Some, None}
use Rattle.std.specs.List.{AllByRecursion, list_any}
use mathlib.Core.Bool.{beq}
use Rattle.spec_model.specs.declared.spec.Spec.{Spec}
use Rattle.spec_model.specs.declared.instance.Atom.{Atom}
use Rattle.spec_model.specs.declared.instance.Cell.{Cell}
use Rattle.spec_model.specs.declared.log.LogItem.{LogItem}
use Rattle.spec_model.specs.Truths.{wins}
use Rattle.spec_model.specs.Universe.{atoms, cells}
use Rattle.effect_model.specs.Places.{atom_index, cell_index}
use Rattle.run_model.specs.States.{body_sets, is_setter, lowered_by, raised_by}
use Rattle.causal_store.specs.Folds.{known_by}
use Rattle.causal_store.specs.declared.tags.Tags.{Tags}
use Rattle.causal_store.specs.declared.sums.Sums.{Sums}

-- ---- atoms

-- one more than the place of the last setter of this value in a log, or 0
abbrev pub last_by : Spec → ℕ → List ℕ → Bool → List LogItem → ℕ → ℕ
last_by spec p xs v [] origin = 0
last_by spec p xs v (y ∷ items) origin = if is_setter spec p xs v y && y.origin == origin then max (y.index + 1) (last_by spec p xs v items origin) else last_by spec p xs v items origin

-- what is kept of an atom, by the items that were applied
pub record AreTags (spec : Spec) (replicas : ℕ) (atom : Atom) (items : List LogItem) (t : Tags) : Type 0 where
  pub last : (i : ℕ) → slice_index t.last i ≡ last_by spec atom.pred atom.args (wins spec atom.pred) items i
  pub past : (i : ℕ) → slice_index t.past i ≡ known_by spec atom.pred atom.args (not (wins spec atom.pred)) items i
  pub followed : t.followed ≡ list_any (is_setter spec atom.pred atom.args (not (wins spec atom.pred))) items
  pub last_long : length t.last ≡ replicas
  pub past_long : length t.past ≡ replicas

-- of each atom of the universe at its place
pub record KeepsTags (spec : Spec) (replicas : ℕ) (items : List LogItem) (tags : List Tags) : Type 0 where
  pub whole : length tags ≡ length (atoms spec)
  pub each : (i : ℕ) (atom : Atom) (t : Tags) → slice_get (atoms spec) i ≡ Some atom → slice_get tags i ≡ Some t → AreTags spec replicas atom items t

abbrev pub no_tags : ℕ → Tags
no_tags n = record { last = replicate n 0; past = replicate n 0; followed = false }

-- some live tag is left: a last setter of the winning value that no past of the other has
abbrev pub some_above : List ℕ → List ℕ → Bool
some_above [] ps = false
some_above (l ∷ ls) [] = false
some_above (l ∷ ls) (p ∷ ps) = nat_lt p l || some_above ls ps

-- the greater count of each log
abbrev pub joined : List ℕ → List ℕ → List ℕ
joined [] ys = []
joined (x ∷ xs) [] = x ∷ xs
joined (x ∷ xs) (y ∷ ys) = max x y ∷ joined xs ys

-- with one more setter, of the winning value or of the other
abbrev pub tags_after : LogItem → Bool → Tags → Tags
tags_after x true t = record { last = slice_set t.last x.origin (max (slice_index t.last x.origin) (x.index + 1)); past = t.past; followed = t.followed }
tags_after x false t = record { last = t.last; past = joined t.past x.deps; followed = true }

-- with one more item, by what it sets the atom to
abbrev pub tags_set : Bool → LogItem → Option Bool → Tags → Tags
tags_set w x None t = t
tags_set w x (Some v) t = tags_after x (beq v w) t

-- with a change of what stands at one place
abbrev pub changed_at : {K : Type 0} → ℕ → (K → K) → List K → List K
changed_at i f [] = []
changed_at zero f (k ∷ ks) = f k ∷ ks
changed_at (suc i) f (k ∷ ks) = k ∷ changed_at i f ks

abbrev pub tag_by : Spec → LogItem → (Atom → Option Bool) → Atom → List Tags → List Tags
tag_by spec x sets atom tags = changed_at (atom_index spec atom.pred atom.args) (tags_set (wins spec atom.pred) x (sets atom)) tags

abbrev pub item_sets : Spec → LogItem → Atom → Option Bool
item_sets spec x atom = body_sets spec atom.pred atom.args x.body

-- tags that are as long as an item's past
abbrev pub AreLong : ℕ → Tags → Type 0
AreLong n t = (length t.last ≡ n) × (length t.past ≡ n)

pub record CanTag (spec : Spec) (x : LogItem) (tags : List Tags) : Type 0 where
  pub origin : x.origin < length x.deps
  pub whole : length tags ≡ length (atoms spec)
  pub long : AllByRecursion (AreLong (length x.deps)) tags

-- ---- cells

-- the sum, as far as a number of 64 bits counts
abbrev pub counted : ℕ → ℕ
counted n = min n (2 ^ 64 - 1)

-- what is kept of a cell, by the items that were applied
pub record AreSums (spec : Spec) (cell : Cell) (items : List LogItem) (s : Sums) : Type 0 where
  pub raised : s.raised ≡ counted (raised_by spec cell items)
  pub lowered : s.lowered ≡ counted (lowered_by spec cell items)

pub record KeepsSums (spec : Spec) (items : List LogItem) (sums : List Sums) : Type 0 where
  pub whole : length sums ≡ length (cells spec)
  pub each : (i : ℕ) (cell : Cell) (s : Sums) → slice_get (cells spec) i ≡ Some cell → slice_get sums i ≡ Some s → AreSums spec cell items s

abbrev pub no_sums : Sums
no_sums = record { raised = 0; lowered = 0 }

abbrev pub more : ℕ → ℕ → ℕ
more a zero = a
more a (suc n) = counted (a + suc n)

abbrev pub sums_after : ℕ → ℕ → Sums → Sums
sums_after rise fall s = record { raised = more s.raised rise; lowered = more s.lowered fall }

abbrev pub sum_by_item : Spec → (Cell → ℕ) → (Cell → ℕ) → Cell → List Sums → List Sums
sum_by_item spec rises falls cell sums = changed_at (cell_index spec cell) (sums_after (rises cell) (falls cell)) sums
