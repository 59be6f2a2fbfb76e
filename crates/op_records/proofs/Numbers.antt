-- A number in bytes, the highest first: from bytes to the number and back to the same bytes.
use Rattle.std.proofs.Common.{◌≡◌, ℕ, zero, suc, ◌+◌, ◌*◌, ◌^◌, ◌<◌, ◌/◌, ◌%◌, List, [], ◌∷◌, length, slice_index, refl, sym, ap, ◌∙◌, arith}
use Rattle.std.proofs.Math.Nat.{add-mul-div_right, add-mul-mod_self_right, div-eq_of_lt, div-one, mod-eq_of_lt, mul_assoc, one-le-pow, pow-succ'}
use Rattle.std.specs.Int.{byte_at, bytes_high_first}
use Rattle.byteorder.specs.Endian.{big_from}
use Rattle.byteorder.specs.Numbers.{big_from-cons, big_from-lt}

pub record IsBytes (bytes : List ℕ) : Type 0 where
  pub each : (i : ℕ) → slice_index bytes i < 256

-- a byte of a number, by its place
byte_is : (k x : ℕ) → byte_at k x ≡ x / 256 ^ k % 256
byte_is zero x = ap (λ (y : ℕ). y % 256) (sym (div-one x))
byte_is (suc k) x = refl

some_power : (n : ℕ) → 0 < 256 ^ n
some_power n = let one = one-le-pow n 256 (omega arith) in omega arith

-- what stands above the lowest k bytes doesn't show in them
low_bytes_same : (k m c : ℕ) → bytes_high_first k (m + c * 256 ^ k) ≡ bytes_high_first k m
low_bytes_same zero m c = refl
low_bytes_same (suc k) m c =
    let up : c * 256 ^ suc k ≡ c * 256 * 256 ^ k = ap (λ (p : ℕ). c * p) (pow-succ' 256 k) ∙ sym (mul_assoc c 256 (256 ^ k)) in
    let top : byte_at k (m + c * 256 * 256 ^ k) ≡ byte_at k m =
    byte_is k (m + c * 256 * 256 ^ k) ∙ ap (λ (y : ℕ). y % 256) (add-mul-div_right m (c * 256) (some_power k)) ∙ add-mul-mod_self_right (m / 256 ^ k) c 256 ∙ sym (byte_is k m) in
    rw (up, top, low_bytes_same k m (c * 256)) refl

-- the highest byte, and the others
split_high : (n b m : ℕ) → b < 256 → m < 256 ^ n → bytes_high_first (suc n) (m + b * 256 ^ n) ≡ b ∷ bytes_high_first n m
split_high n b m byte low =
    let bare : 0 + b ≡ b = omega arith in
    let top : byte_at n (m + b * 256 ^ n) ≡ b =
    byte_is n (m + b * 256 ^ n) ∙ ap (λ (y : ℕ). y % 256) (add-mul-div_right m b (some_power n)) ∙ ap (λ (y : ℕ). (y + b) % 256) (div-eq_of_lt low) ∙ ap (λ (y : ℕ). y % 256) bare ∙ mod-eq_of_lt byte in
    rw (top, low_bytes_same n m b) refl

pub later_bytes : (b : ℕ) (bytes : List ℕ) → IsBytes (b ∷ bytes) → IsBytes bytes
later_bytes b bytes are = record { each = λ i. are.each (suc i) }

-- the bytes of the number in so many bytes are these bytes
pub same_bytes : (n : ℕ) (bytes : List ℕ) → length bytes ≡ n → IsBytes bytes → bytes_high_first n (big_from 0 n bytes) ≡ bytes
same_bytes zero [] count are = refl
same_bytes zero (b ∷ bytes) count are = absurd (omega (arith, count))
same_bytes (suc n) [] count are = absurd (omega (arith, count))
same_bytes (suc n) (b ∷ bytes) count are =
    let others = later_bytes b bytes are in
    let low : big_from 0 n bytes < 256 ^ n = big_from-lt 0 n bytes others.each in
    let whole : big_from 0 (suc n) (b ∷ bytes) ≡ big_from 0 n bytes + b * 256 ^ n = rw (big_from-cons 0 n b bytes) (omega arith) in
    ap (bytes_high_first (suc n)) whole ∙ split_high n b (big_from 0 n bytes) (are.each 0) low ∙ ap (λ (l : List ℕ). b ∷ l) (same_bytes n bytes (omega (arith, count)) others)
