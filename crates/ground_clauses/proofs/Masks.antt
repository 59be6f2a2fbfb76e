-- Bits of the number that is made of them.
use Rattle.std.proofs.Common.{◌≡◌, ℕ, zero, suc, ◌+◌, ◌*◌, ◌/◌, ◌%◌, ◌^◌, ◌<◌, ◌≤◌, Bool, true, false, cond, eqb, List, [], ◌∷◌, get_or, sym, ap, pow_mono, ◌∙◌, arith}
use Rattle.std.proofs.Math.Nat.{zero-div, div-one, div-eq_of_lt}
use Rattle.std.proofs.lemmas.Nat.{shr-shr}
use Rattle.ground_clauses.specs.Bits.{bits_number, has_bit}

pub no_bit : (c : ℕ) → has_bit 0 c ≡ false
no_bit c = ap (λ n. eqb (n % 2) 1) (zero-div (2 ^ c))

-- a number of 32 bits has no others
pub past_bits : (n c : ℕ) → n < 2 ^ 32 → 32 ≤ c → has_bit n c ≡ false
past_bits n c lt le =
    let grows : 2 ^ 32 ≤ 2 ^ c = pow_mono le in
    ap (λ k. eqb (k % 2) 1) (div-eq_of_lt (let z : n < 2 ^ c = omega arith in z))

half : (b : Bool) (n : ℕ) → (cond b 1 0 + 2 * n) / 2 ≡ n
half true n = omega arith
half false n = omega arith

odd : (b : Bool) (n : ℕ) → eqb ((cond b 1 0 + 2 * n) % 2) 1 ≡ b
odd true n = ap (λ r. eqb r 1) (let z : (1 + 2 * n) % 2 ≡ 1 = omega arith in z)
odd false n = ap (λ r. eqb r 1) (let z : (0 + 2 * n) % 2 ≡ 0 = omega arith in z)

pub bit_of : (bs : List Bool) (c : ℕ) → has_bit (bits_number bs) c ≡ get_or bs c false
bit_of [] c = no_bit c
bit_of (b ∷ bs) zero = ap (λ n. eqb (n % 2) 1) (div-one (cond b 1 0 + 2 * bits_number bs)) ∙ odd b (bits_number bs)
bit_of (b ∷ bs) (suc c) =
    ap (λ k. eqb ((cond b 1 0 + 2 * bits_number bs) / 2 ^ k % 2) 1) (let z : suc c ≡ 1 + c = omega arith in z)
    ∙ ap (λ n. eqb (n % 2) 1) (sym (shr-shr (cond b 1 0 + 2 * bits_number bs) 1 c))
    ∙ ap (λ n. has_bit n c) (half b (bits_number bs)) ∙ bit_of bs c
