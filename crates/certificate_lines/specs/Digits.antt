-- Digits, one after the other.
use Rattle.std.specs.Prelude.{◌≡◌, ◌≤◌, ℕ, Bool, true, false, not, ◌==◌, List, [], ◌∷◌}
use Rattle.std.specs.Str.{all_ascii_digits}
use Rattle.ind_base.specs.Numbers.{value_after}

-- these bytes are digits of this value, which is less than 64 bits hold
pub record AreDigits (w : List ℕ) (n : ℕ) : Type 0 where
  pub digits : all_ascii_digits w ≡ true
  pub value : value_after 0 w ≡ n
  pub small : n ≤ 42949672959

-- there is a digit, and no zero before another one
abbrev pub begins_plain : List ℕ → Bool
begins_plain [] = false
begins_plain (c ∷ []) = true
begins_plain (c ∷ d ∷ cs) = not (c == 48)
