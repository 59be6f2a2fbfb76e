-- The bits of a number.
use Rattle.std.specs.Prelude.{ℕ, ◌+◌, ◌*◌, ◌/◌, ◌%◌, ◌^◌, Bool, if◌then◌else◌, eqb, List, [], ◌∷◌}

-- bit c, where bit 0 is the lowest
abbrev pub has_bit : ℕ → ℕ → Bool
has_bit n c = eqb (n / 2 ^ c % 2) 1

-- the number with these bits, bit 0 first
abbrev pub bits_number : List Bool → ℕ
bits_number [] = 0
bits_number (b ∷ bs) = (if b then 1 else 0) + 2 * bits_number bs
