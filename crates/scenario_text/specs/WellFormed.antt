-- What holds of every document that is read.
use Rattle.std.specs.Prelude.{◌≡◌, ℕ, ◌+◌, ◌<◌, ◌≤◌, List, [], length, Option, Some}
use Rattle.std.specs.List.{AllByRecursion}
use Rattle.spec_model.specs.declared.spec.Spec.{Spec}
use Rattle.run_model.specs.declared.step.Ask.{Ask}
use Rattle.run_model.specs.declared.step.Ask.TheVariants as asks
use Rattle.run_model.specs.declared.step.Order.{Order}
use Rattle.spec_model.specs.Fits.{InstFits, IsWellFormed}
use Rattle.scenario_text.specs.Draft.{courier_turns}
use Rattle.scenario_text.specs.Numbered.{AreNumbered}
use Rattle.scenario_text.specs.declared.document.ClientAsk.{ClientAsk}
use Rattle.scenario_text.specs.declared.document.Work.{Work}
use Rattle.scenario_text.specs.declared.document.Work.TheVariants as works
use Rattle.scenario_text.specs.declared.document.Document.{Document}

-- another replica, and the number of a message
pub record PeerFits (replicas replica peer : ℕ) (number : Option ℕ) : Type 0 where
  pub within : peer < replicas
  pub other : peer ≡ replica → ⊥
  pub given : ℕ
  pub is_given : number ≡ Some given

-- what a replica is asked in a schedule
abbrev pub StepFits : Spec → ℕ → ℕ → Ask → Type 0
StepFits spec replicas replica (asks.Do inst) = InstFits spec inst
StepFits spec replicas replica (asks.Send to number) = PeerFits replicas replica to number
StepFits spec replicas replica (asks.Take from number) = PeerFits replicas replica from number
StepFits spec replicas replica asks.Crash = Unit {0}
StepFits spec replicas replica asks.Recover = Unit {0}

-- a line of a schedule
pub record OrderFits (spec : Spec) (replicas : ℕ) (order : Order) : Type 0 where
  pub within : order.replica < replicas
  pub step : StepFits spec replicas order.replica order.ask

-- what a client asks: an operation, a crash or a recovery
abbrev pub RequestFits : Spec → Ask → Type 0
RequestFits spec (asks.Do inst) = InstFits spec inst
RequestFits spec (asks.Send to number) = ⊥
RequestFits spec (asks.Take from number) = ⊥
RequestFits spec asks.Crash = Unit {0}
RequestFits spec asks.Recover = Unit {0}

-- a request of a declared client
pub record AskFits (spec : Spec) (clients : ℕ) (ask : ClientAsk) : Type 0 where
  pub within : ask.client < clients
  pub request : RequestFits spec ask.ask

-- a schedule of at most 100,000 lines, whose sends are numbered for each pair of replicas, and whose takes name sends before them
pub record ScheduleFits (spec : Spec) (replicas : ℕ) (orders : List Order) : Type 0 where
  pub orders_fit : AllByRecursion (OrderFits spec replicas) orders
  pub few_orders : length orders ≤ 100000
  pub numbered : AreNumbered [] orders

-- at most 32 clients, 10,000 turns, and 100,000 requests and turns of couriers
pub record ClientsFit (spec : Spec) (replicas turns : ℕ) (homes : List ℕ) (asked : List ClientAsk) : Type 0 where
  pub few_turns : turns ≤ 10000
  pub homes_fit : AllByRecursion (λ home. home < replicas) homes
  pub few_homes : length homes ≤ 32
  pub asks_fit : AllByRecursion (AskFits spec (length homes)) asked
  pub few_asks : length asked + courier_turns turns replicas ≤ 100000

abbrev pub WorkFits : Spec → ℕ → Work → Type 0
WorkFits spec replicas (works.Schedule orders) = ScheduleFits spec replicas orders
WorkFits spec replicas (works.Clients turns homes asked) = ClientsFit spec replicas turns homes asked

-- a well-formed specification with 1 to 8 replicas, at most 1,000 stops, and work that fits
pub record IsWellFormedDocument (d : Document) : Type 0 where
  pub spec : IsWellFormed d.spec
  pub some_replicas : 1 ≤ d.replicas
  pub few_replicas : d.replicas ≤ 8
  pub stops : AllByRecursion (λ line. line.replica < d.replicas) d.stops
  pub few_stops : length d.stops ≤ 1000
  pub work : WorkFits d.spec d.replicas d.work
