-- How many asks come to a desk of a few workers.
use Rattle.std.proofs.Common.{◌≡◌, ◌==◌, ◌≤◌, ◌+◌, ℕ, [], ◌∷◌, Bool, true, false, cond, length, refl, arith}
use Rattle.desk_workers.specs.declared.worker.Worker.{Worker}
use Rattle.desk_workers.specs.Workers.{asks_at}
use Rattle.desk_workers.proofs.Loads.{asks_at-cons}

at_most : (b : Bool) (n : ℕ) → cond b n 0 ≤ n
at_most true n = omega arith
at_most false n = omega arith

-- no desk is asked more than all are
pub asks_of_three : (desk : ℕ) (a b c : Worker ℕ) → asks_at desk (a ∷ b ∷ c ∷ []) ≤ length a.asks + length b.asks + length c.asks
asks_of_three desk a b c =
    let none : asks_at {A = ℕ} desk [] ≡ 0 = refl in
    omega (
      arith,
      none,
      asks_at-cons desk a (b ∷ c ∷ []),
      asks_at-cons desk b (c ∷ []),
      asks_at-cons desk c [],
      at_most (a.desk == desk) (length a.asks),
      at_most (b.desk == desk) (length b.asks),
      at_most (c.desk == desk) (length c.asks),
    )
