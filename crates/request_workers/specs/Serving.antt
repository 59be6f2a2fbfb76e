-- Histories of a legal run of clients.
use Rattle.std.specs.Prelude.{◌≡◌, List, length, IsTrue}
use Rattle.spec_model.specs.declared.plan.Setup.{Setup}
use Rattle.run_model.specs.declared.history.History.{History}
use Rattle.run_model.specs.declared.step.StepEntry.{StepEntry}
use Rattle.run_model.specs.Worlds.{World}
use Rattle.run_trace.specs.Merging.{AreHistories, IsMerged}
use Rattle.scenario_text.specs.declared.document.StopLine.{StopLine}
use Rattle.client_asks.specs.Asking.{ClientWork}
use Rattle.client_runs.specs.Serving.{IsServedRun}
use Rattle.client_runs.specs.Serving.{ups_of}
use Rattle.request_workers.specs.Histories.{BayTells, Bays}

-- entries that are a legal run of the clients' work, sound at each step, which leaves the replicas as their histories say; and what a telling bay tells of it
pub record IsToldRun (setup : Setup) (work : ClientWork) (lines : List StopLine) (histories : List History) (entries : List StepEntry) (bays : Bays) : Type 0 where
  pub world : World
  pub run : IsServedRun setup work histories entries world
  pub disks : IsTrue bays.tells → BayTells setup lines (ups_of histories) entries world bays

-- one history for each replica, whose entries in one order are such a run
pub record AreServed (setup : Setup) (work : ClientWork) (lines : List StopLine) (histories : List History) (bays : Bays) : Type 0 where
  pub whole : length histories ≡ setup.replicas
  pub own : AreHistories histories
  pub legal : (entries : List StepEntry) → IsMerged histories entries → IsToldRun setup work lines histories entries bays
