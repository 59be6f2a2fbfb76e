-- The workers of a run for clients.
use Rattle.std.specs.Prelude.{◌≡◌, ℕ, zero, suc, ◌+◌, List, [], ◌∷◌, ◌++◌, Some, None}
use Rattle.spec_model.specs.declared.plan.Setup.{Setup}
use Rattle.run_model.specs.declared.step.Ask.{Ask}
use Rattle.scenario_text.specs.declared.document.ClientAsk.{ClientAsk}
use Rattle.local_runs.specs.Handed.{AskFits}
use Rattle.replica_node.specs.Steps.{plain}
use Rattle.desk_workers.specs.declared.worker.Worker.{Worker}
use Rattle.client_asks.specs.Asking.{asks_by, courier_asks}

-- the workers of the clients from this number on, each at the desk of its home
abbrev pub clients_from : ℕ → List ℕ → List ClientAsk → List (Worker Ask)
clients_from client [] asked = []
clients_from client (home ∷ homes) asked = record { desk = home; client = Some client; asks = asks_by client asked } ∷ clients_from (client + 1) homes asked

-- the workers of the couriers of the first replicas; a courier is no client
abbrev pub first_couriers : ℕ → ℕ → ℕ → List (Worker Ask)
first_couriers replicas turns zero = []
first_couriers replicas turns (suc me) = first_couriers replicas turns me ++ record { desk = me; client = None; asks = courier_asks replicas me turns } ∷ []

-- the workers of all clients, and then those of all couriers
abbrev pub all_workers : ℕ → ℕ → List ℕ → List ClientAsk → List (Worker Ask)
all_workers replicas turns homes asked = clients_from 0 homes asked ++ first_couriers replicas turns replicas

-- what a replica may be asked by a worker: it fits, and names no message by its number
abbrev pub MayAsk : Setup → ℕ → Ask → Type 0
MayAsk setup me ask = AskFits setup me ask × (plain ask ≡ ask)
