-- A number of 32 bits, read digit by digit.
use Rattle.std.proofs.Common.{◌≡◌, ℕ, zero, suc, ◌+◌, ◌-◌, ◌*◌, ◌^◌, ◌<◌, ◌≤◌, Bool, true, false, cond, leb, eqb, ltb, not, ◌&&◌, List, [], ◌∷◌, length, get_or, drop, refl, sym, ap, ◌∙◌, arith}
use Rattle.std.specs.Prelude.{Option, Some, None}
use Rattle.std.specs.Char.{is_ascii_digit}
use Rattle.std.specs.Str.{all_ascii_digits}
use Rattle.std.proofs.lemmas.Bool.{lt-ltb, leb-true, true≢false}
use Rattle.std.proofs.lemmas.List.{drop_more, drop_all}
use Rattle.line_text.proofs.Guards.{and_true}
use Rattle.ind_base.specs.Numbers.{is_canonical, num_of, value_after}
use Rattle.certificate_lines.specs.Digits.{AreDigits, begins_plain}
use Rattle.certificate_lines.specs.Forms.{narrow, number_of}

-- what was read so far, and what is still to be read
pub record AreRead (w : List ℕ) (at value : ℕ) : Type 0 where
  pub digits : all_ascii_digits (drop at w) ≡ all_ascii_digits w
  pub gives : value_after value (drop at w) ≡ value_after 0 w
  pub small : value ≤ 42949672959

pub none_read : (w : List ℕ) → AreRead w 0 0
none_read w = record { digits = refl; gives = refl; small = omega arith }

canonical_parts : (w : List ℕ) → is_canonical w ≡ (begins_plain w && all_ascii_digits w)
canonical_parts [] = refl
canonical_parts (c ∷ []) = refl
canonical_parts (c ∷ d ∷ cs) = swapped (all_ascii_digits (c ∷ d ∷ cs)) (not (eqb c 48))
  where
    swapped : (a b : Bool) → (a && b) ≡ (b && a)
    swapped true true = refl
    swapped true false = refl
    swapped false true = refl
    swapped false false = refl

pub no_number : (w : List ℕ) → begins_plain w ≡ false → number_of w ≡ None
unfolding number_of
no_number w e =
    let h : is_canonical w ≡ false = canonical_parts w ∙ ap (λ (b : Bool). b && all_ascii_digits w) e in
    rw h refl

pub plain_number : (w : List ℕ) (n : ℕ) → begins_plain w ≡ true → AreDigits w n → number_of w ≡ narrow (Some n)
unfolding number_of
plain_number w n e are =
    let h : is_canonical w ≡ true = canonical_parts w ∙ ap (λ (b : Bool). b && all_ascii_digits w) e ∙ are.digits in
    let fits : n < 2 ^ 64 = let s = are.small in omega (arith, s) in
    rw (h, are.value, lt-ltb n (2 ^ 64) fits) refl

no_digits : (w : List ℕ) → all_ascii_digits w ≡ false → number_of w ≡ None
unfolding number_of
no_digits w e =
    let h : is_canonical w ≡ false = canonical_parts w ∙ ap (λ (b : Bool). begins_plain w && b) e ∙ never (begins_plain w) in
    rw h refl
  where
    never : (b : Bool) → (b && false) ≡ false
    never true = refl
    never false = refl

first_no_digit : (c : ℕ) (cs : List ℕ) → is_ascii_digit c ≡ false → all_ascii_digits (c ∷ cs) ≡ false
first_no_digit c cs e = rw e refl

-- a byte that is no digit
pub stops_here : (w : List ℕ) (at value d : ℕ) → at < length w → AreRead w at value → is_ascii_digit (get_or w at d) ≡ false → number_of w ≡ None
stops_here w at value d lt are e =
    no_digits w (sym are.digits ∙ ap all_ascii_digits (drop_more w at d lt) ∙ first_no_digit (get_or w at d) (drop (at + 1) w) e)

grows : (n : ℕ) (cs : List ℕ) → n ≤ value_after n cs
grows n [] = omega arith
grows n (c ∷ cs) = let h = grows (10 * n + (c - 48)) cs in omega (arith, h)

too_large : (b : Bool) (n : ℕ) → 4294967295 < n → narrow (cond b (Some n) None) ≡ None
too_large false n large = refl
too_large true n large = by_test (leb n 4294967295) refl
  where
    by_test : (t : Bool) → leb n 4294967295 ≡ t → cond t (Some n) None ≡ None
    by_test true is = absurd (let h = leb-true n 4294967295 is in omega (arith, h, large))
    by_test false is = refl

-- a value that is too large already
pub grows_past : (w : List ℕ) (at value : ℕ) → AreRead w at value → 4294967295 < value → number_of w ≡ None
unfolding number_of
grows_past w at value are large =
    let h = grows value (drop at w) in
    let same = are.gives in
    too_large (is_canonical w && ltb (value_after 0 w) (2 ^ 64)) (value_after 0 w) (omega (arith, h, same, large))

first_digit : (c : ℕ) (cs : List ℕ) → is_ascii_digit c ≡ true → all_ascii_digits (c ∷ cs) ≡ all_ascii_digits cs
first_digit c cs e = rw e refl

digit_small : (c : ℕ) → is_ascii_digit c ≡ true → c ≤ 57
digit_small c e = leb-true c 57 (and_true (leb 48 c) (leb c 57) e).1

pub one_read : (w : List ℕ) (at value d new : ℕ) → at < length w → AreRead w at value → is_ascii_digit (get_or w at d) ≡ true → value ≤ 4294967295 → new ≡ 10 * value + (get_or w at d - 48)
    → AreRead w (at + 1) new
one_read w at value d new lt are e fits is = record {
  digits = sym (first_digit (get_or w at d) (drop (at + 1) w) e) ∙ ap all_ascii_digits (sym (drop_more w at d lt)) ∙ are.digits;
  gives = ap (λ (n : ℕ). value_after n (drop (at + 1) w)) is ∙ ap (value_after value) (sym (drop_more w at d lt)) ∙ are.gives;
  small = let digit = digit_small (get_or w at d) e in omega (arith, is, fits, digit);
}

pub all_digits : (w : List ℕ) (at value : ℕ) → length w ≤ at → AreRead w at value → AreDigits w value
all_digits w at value le are =
    let none : drop at w ≡ [] = drop_all at w le in
    record {
      digits = sym are.digits ∙ ap all_ascii_digits none;
      value = sym are.gives ∙ ap (value_after value) none;
      small = are.small;
    }
