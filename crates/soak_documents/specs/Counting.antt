-- Lines with the counts of their sends.
use Rattle.std.specs.Prelude.{◌≡◌, ◌<◌, ◌+◌, ◌*◌, ℕ, List, length, slice_get, Some}
use Rattle.run_model.specs.declared.step.Ask.{Ask}
use Rattle.run_model.specs.declared.step.Ask.TheVariants as asks
use Rattle.run_model.specs.declared.step.Order.{Order}
use Rattle.scenario_text.specs.Numbered.{sends_of}

-- the sends from each of four replicas to each, at 4 times the one and the other
pub record AreCounted (orders : List Order) (counts : List ℕ) : Type 0 where
  pub sixteen : length counts ≡ 16
  pub each : (from to : ℕ) → from < 4 → to < 4 → slice_get counts (4 * from + to) ≡ Some (sends_of from to orders)

-- a send goes to one of four replicas
abbrev pub SendsWithin : Ask → Type 0
SendsWithin (asks.Do inst) = Unit {0}
SendsWithin (asks.Send to number) = to < 4
SendsWithin (asks.Take from number) = Unit {0}
SendsWithin asks.Crash = Unit {0}
SendsWithin asks.Recover = Unit {0}

-- a line of one of four replicas
pub record IsWithin (order : Order) : Type 0 where
  pub replica : order.replica < 4
  pub peer : SendsWithin order.ask
