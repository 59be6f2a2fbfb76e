-- Stamps of a run.
use Rattle.std.specs.Prelude.{◌≤◌, List, length, Bool}
use Rattle.std.specs.List.{AllByRecursion}
use Rattle.spec_model.specs.declared.plan.Setup.{Setup}
use Rattle.run_model.specs.declared.step.StepEntry.{StepEntry}
use Rattle.run_model.specs.Worlds.{World, first_world}
use Rattle.run_model.specs.Runs.{Runs}

-- no stamp of a run passes the number of its steps
abbrev pub StampsAreCounted : Type 0
StampsAreCounted = (setup : Setup) (ups : List Bool) (entries : List StepEntry) (world : World) → Runs setup (first_world setup.replicas ups) entries world
    → AllByRecursion (λ entry. entry.stamp ≤ length entries) entries
