-- Which items have a spelling: those that are small, and so those that the replicas of a run log.
use Rattle.std.specs.Prelude.{◌≡◌, ℕ, ◌<◌, ◌≤◌, ◌^◌, Bool, List, length, slice_index, Some}
use Rattle.std.specs.List.{AllByRecursion}
use Rattle.spec_model.specs.declared.plan.Setup.{Setup}
use Rattle.spec_model.specs.declared.log.LogItem.{LogItem}
use Rattle.run_model.specs.declared.step.StepEntry.{StepEntry}
use Rattle.run_model.specs.Fitting.{AsksFit, ItemFits, SetupFits}
use Rattle.run_model.specs.Logs.{item_at, log_at}
use Rattle.run_model.specs.Runs.{Runs}
use Rattle.run_model.specs.Worlds.{World, first_world, logs_of}
use Rattle.op_records.specs.Spelling.{IsBatch}

-- an item that fits, with fewer than 2 ^ 32 items of each log in its past, and of its own log just those before it
pub record IsSmall (setup : Setup) (item : LogItem) : Type 0 where
  pub fits : ItemFits setup item
  pub past : AllByRecursion (λ n. n < 2 ^ 32) item.deps
  pub before : slice_index item.deps item.origin ≡ item.index

-- any 1 to 40 such items of at most 8 replicas have a spelling
abbrev pub FitIsSpelled : Type 0
FitIsSpelled = (setup : Setup) (items : List LogItem) → SetupFits setup → setup.replicas ≤ 8 → 1 ≤ length items → length items ≤ 40 → AllByRecursion (IsSmall setup) items → IsBatch setup.replicas items

-- any 1 to 40 items of the logs of a run have one: of at most 8 replicas, whose asks fit and whose logs have at most 2 ^ 22 items each. What a replica commits at once is at most 16 items of another's log and 24 of its own
abbrev pub LoggedIsSpelled : Type 0
LoggedIsSpelled = (setup : Setup) (ups : List Bool) (entries : List StepEntry) (world : World) (items : List LogItem)
    → SetupFits setup → setup.replicas ≤ 8 → length ups ≡ setup.replicas → AsksFit setup.spec entries → Runs setup (first_world setup.replicas ups) entries world
    → ((j : ℕ) → length (log_at (logs_of world) j) ≤ 4194304)
    → 1 ≤ length items → length items ≤ 40 → AllByRecursion (λ item. (i : ℕ) × (k : ℕ) × (item_at (logs_of world) i k ≡ Some item)) items
    → IsBatch setup.replicas items
