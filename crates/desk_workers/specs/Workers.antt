-- The workers of each desk, and their asks.
use Rattle.std.specs.Prelude.{◌==◌, ℕ, List, map, filter, length, sum_by}
use Rattle.desk_workers.specs.declared.worker.Worker.{Worker}

module _ {A : Type 0} where
  -- the lists of asks of a desk's workers, in the order of the workers
  abbrev pub lists_at : ℕ → List (Worker A) → List (List A)
  lists_at desk workers = map (λ w. w.asks) (filter (λ w. w.desk == desk) workers)

  -- how many asks these are
  abbrev pub asks_at : ℕ → List (Worker A) → ℕ
  asks_at desk workers = sum_by length (lists_at desk workers)
