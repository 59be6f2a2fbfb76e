-- Every schedule can be run.
use Rattle.std.specs.Prelude.{◌≡◌, List, length, Bool}
use Rattle.spec_model.specs.declared.plan.Setup.{Setup}
use Rattle.run_model.specs.declared.step.Order.{Order}
use Rattle.run_model.specs.declared.step.StepEntry.{StepEntry}
use Rattle.run_model.specs.Worlds.{World}
use Rattle.run_model.specs.Runs.{IsLegal}
use Rattle.scenario_text.specs.WellFormed.{ScheduleFits}

-- each schedule that fits has a legal run, with its crashes and recoveries, whichever replicas are up at first
abbrev pub EveryScheduleRuns : Type 0
EveryScheduleRuns = (setup : Setup) (schedule : List Order) (ups : List Bool) → length ups ≡ setup.replicas → ScheduleFits setup.spec setup.replicas schedule
    → (entries : List StepEntry) × (world : World) × IsLegal setup schedule ups entries world
