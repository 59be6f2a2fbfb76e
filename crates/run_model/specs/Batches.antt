-- What the batches that a replica kept tell of it.
use Rattle.std.specs.Prelude.{◌≡◌, ℕ, List, [], length, replicate, slice_get, Bool, Some}
use Rattle.std.specs.List.{flat_map}
use Rattle.spec_model.specs.declared.plan.Setup.{Setup}
use Rattle.spec_model.specs.declared.log.LogItem.{LogItem}
use Rattle.run_model.specs.declared.batch.Batch.{Batch}
use Rattle.run_model.specs.declared.step.StepEntry.{StepEntry}
use Rattle.run_model.specs.Logs.{with_all, cut_after}
use Rattle.run_model.specs.Worlds.{World, Standing, logs_of, no_cut, own_of, first_world}
use Rattle.run_model.specs.Runs.{Runs}
use Rattle.run_model.specs.Locals.{Knows}

-- the items of these batches, one after the other
abbrev pub items_of : List Batch → List LogItem
items_of batches = flat_map (λ batch. batch.items) batches

-- the batches that replica me kept tell its log, its cut, and all that it knows of each log
pub record AreTold (setup : Setup) (world : World) (me : ℕ) (p : Standing) : Type 0 where
  pub log : p.log ≡ own_of me (items_of p.kept)
  pub cut : p.cut ≡ cut_after (no_cut setup.replicas) (items_of p.kept)
  pub knows : Knows (logs_of world) p.cut (with_all (items_of p.kept) (replicate setup.replicas []))

-- so in the world of every run
abbrev pub BatchesTell : Type 0
BatchesTell = (setup : Setup) (ups : List Bool) (entries : List StepEntry) (world : World) (me : ℕ) (p : Standing) → length ups ≡ setup.replicas
    → Runs setup (first_world setup.replicas ups) entries world → slice_get world me ≡ Some p → AreTold setup world me p
