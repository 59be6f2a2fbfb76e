-- A store of the code, as the definitions of runs see it.
use Rattle.std.specs.Prelude.{◌≡◌, ℕ, ◌-◌, ◌≤◌, List, length, filter, map, slice_get, ◌==◌, vec_capacity}
use Rattle.std.specs.List.{AllByRecursion}
use Rattle.std.specs.Option.{option_map_or}
use Rattle.spec_model.specs.declared.spec.Spec.{Spec}
use Rattle.spec_model.specs.declared.log.LogItem.{LogItem}
use Rattle.spec_model.specs.Truths.{Truths}
use Rattle.run_model.specs.Logs.{Logs, items_in}
use Rattle.run_model.specs.States.{truth_of}
use Rattle.run_model.specs.Fitting.{IsPlaced}
use Rattle.spec_model.specs.Fits.{IsWellFormed}
use Rattle.causal_store.specs.Folds.{all_items}
use Rattle.causal_store.specs.Keeping.{KeepsSums, KeepsTags}
use Rattle.causal_store.specs.declared.store.Store.{Store}

-- the logs that it keeps, of each replica as far as it is known
abbrev pub logs_in : Store → Logs
logs_in s = map (λ log. log.items) s.logs.items

-- how many items of each log it has
abbrev pub cut_in : Store → List ℕ
cut_in s = s.cut

-- it keeps a log for each of so many replicas, of items that fit, and counts them; of each atom its live tags, and of each cell its sums
pub record IsStore (spec : Spec) (replicas : ℕ) (s : Store) : Type 0 where
  pub whole : length (logs_in s) ≡ replicas
  pub few : replicas ≤ 16
  pub counts : cut_in s ≡ map (λ log. length log) (logs_in s)
  pub fits : AllByRecursion (AllByRecursion (IsPlaced replicas)) (logs_in s)
  pub formed : IsWellFormed spec
  pub tags : KeepsTags spec replicas (all_items (logs_in s)) s.tags
  pub sums : KeepsSums spec (all_items (logs_in s)) s.sums

-- the truths of the state of the acts that it has
abbrev pub state_truths : Spec → Store → Truths
state_truths spec s = truth_of spec (items_in (cut_in s) (logs_in s))

-- no log has more items than a sum of their changes can bear
abbrev pub IsShort : Store → Type 0
IsShort s = AllByRecursion (λ log. length log ≤ 4194304) (logs_in s)

-- how many more items of a log it takes without memory
abbrev pub room_in : Store → ℕ → ℕ
room_in s origin = option_map_or (λ log. vec_capacity log - length log.items) (slice_get s.logs.items origin) 0

-- it takes these items without memory
abbrev pub HasRoomFor : Store → List LogItem → Type 0
HasRoomFor s items = (origin : ℕ) → length (filter (λ item. item.origin == origin) items) ≤ room_in s origin
