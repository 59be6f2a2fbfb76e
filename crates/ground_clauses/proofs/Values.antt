-- The value of a variable by its number.
use Rattle.std.proofs.Common.{ℕ, zero, suc, Bool, false, List, [], ◌∷◌}

abbrev pub value_at : {X : Type 0} → (X → Bool) → List X → ℕ → Bool
value_at f [] n = false
value_at f (x ∷ xs) zero = f x
value_at f (x ∷ xs) (suc n) = value_at f xs n
