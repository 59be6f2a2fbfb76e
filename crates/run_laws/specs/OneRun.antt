-- A schedule and what the disks say settle a run.
use Rattle.std.specs.Prelude.{◌≡◌, ℕ, List, map, Bool}
use Rattle.spec_model.specs.declared.plan.Setup.{Setup}
use Rattle.run_model.specs.declared.step.Order.{Order}
use Rattle.run_model.specs.declared.step.Outcome.{Outcome}
use Rattle.run_model.specs.declared.step.Outcome.TheVariants as outcomes
use Rattle.run_model.specs.declared.step.StepEntry.{StepEntry}
use Rattle.run_model.specs.Worlds.{World}
use Rattle.run_model.specs.Runs.{IsLegal, entries_at}

-- what an outcome tells of the disk: that it failed, that what was pending was found on it or not, or nothing
pub data DiskSaid : Type 0 where
  Fine : DiskSaid
  Failed : DiskSaid
  Found : DiskSaid
  Missed : DiskSaid

abbrev pub said : Outcome → DiskSaid
said outcomes.DiskBroken = Failed
said outcomes.Kept = Found
said outcomes.Lost = Missed
said outcome = Fine

-- what the disk of replica me said at its entries
abbrev pub said_at : ℕ → List StepEntry → List DiskSaid
said_at me entries = map (λ e. said e.outcome) (entries_at me entries)

-- two legal runs of a schedule in which the same replicas are up at first and all disks say the same have the same entries, and leave the same world
abbrev pub RunsAreOne : Type 0
RunsAreOne = (setup : Setup) (schedule : List Order) (ups : List Bool) (entries others : List StepEntry) (world another : World)
    → IsLegal setup schedule ups entries world → IsLegal setup schedule ups others another → ((me : ℕ) → said_at me entries ≡ said_at me others) → (entries ≡ others) × (world ≡ another)
