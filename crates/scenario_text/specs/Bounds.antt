-- The limits that every document keeps, also while it is read.
use Rattle.std.specs.Prelude.{◌≡◌, ◌≤◌, length}
use Rattle.std.specs.List.{AllByRecursion}
use Rattle.spec_language.specs.Bounds.{Bounds as SpecBounds}
use Rattle.scenario_text.specs.declared.draft.Draft.{Draft}

pub record Bounds (d : Draft) : Type 0 where
  pub spec : SpecBounds d.spec
  pub replicas : d.replicas ≤ 8
  pub stops : length d.stops ≤ 1000
  pub orders : length d.orders ≤ 100000
  pub links : length d.sent ≡ 64
  pub sent : AllByRecursion (λ n. n ≤ length d.orders) d.sent
  pub few : AllByRecursion (λ n. n ≤ 100000) d.sent
  pub turns : d.turns ≤ 10000
  pub homes : length d.homes ≤ 32
  pub asks : length d.asks ≤ 100000
