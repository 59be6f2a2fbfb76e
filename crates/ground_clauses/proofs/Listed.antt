-- Cases listed bit by bit.
use Rattle.std.proofs.Common.{◌≡◌, ℕ, zero, suc, ◌+◌, ◌*◌, ◌^◌, ◌<◌, ◌≤◌, Bool, true, false, List, [], ◌∷◌, ◌++◌, map, refl, sym, ap, append-nil, append_assoc, pow_mono, ◌-◌, ◌∙◌, arith}
use Rattle.std.specs.List.{flat_map, filter}
use Rattle.std.proofs.lemmas.List.Elements.{filter-append}
use Rattle.std.proofs.Math.Nat.{mul-add, mul_assoc, mul_comm, pow-succ', add_assoc}
use Rattle.std.proofs.lemmas.List.{map-append}
use Rattle.std.proofs.lemmas.Grind.{flat_map-append}
use Rattle.ground_clauses.specs.Bits.{bits_number}
use Rattle.ground_clauses.specs.Cases.{bit_lists, is_touched_case}
use Rattle.ground_clauses.specs.Listing.{first_bits, second_bits}
use Rattle.ground_clauses.specs.declared.case.Case.{Case}
use Rattle.spec_model.specs.declared.spec.Spec.{Spec}

abbrev with_b : Case → ℕ → Case
with_b k n = record { a = k.a; b = k.b; target = k.target; classes = k.classes; bits_a = k.bits_a; bits_b = n }

abbrev with_a : Case → ℕ → Case
with_a k n = record { a = k.a; b = k.b; target = k.target; classes = k.classes; bits_a = n; bits_b = k.bits_b }

pub second_end : (k : Case) (class : ℕ) → second_bits k class 0 ≡ k ∷ []
second_end k class = ap (λ n. with_b k n ∷ []) (let z : k.bits_b + 2 ^ class * 0 ≡ k.bits_b = omega arith in z)

-- a bit and the bits behind it
weight : (n w b x : ℕ) → n + w * (b + 2 * x) ≡ (n + w * b) + (2 * w) * x
weight n w b x =
    let split : w * (b + 2 * x) ≡ w * b + w * (2 * x) = mul-add w b (2 * x) in
    let moved : w * (2 * x) ≡ (2 * w) * x = sym (mul_assoc w 2 x) ∙ ap (λ v. v * x) (mul_comm w 2) in
    ap (λ v. n + v) (split ∙ ap (λ v. w * b + v) moved) ∙ sym (add_assoc n (w * b) ((2 * w) * x))

twice : (class : ℕ) → 2 ^ (class + 1) ≡ 2 * 2 ^ class
twice class = ap (λ k. 2 ^ k) (let z : class + 1 ≡ suc class = omega arith in z) ∙ pow-succ' 2 class

weight_off : (n class x : ℕ) → n + 2 ^ class * (0 + 2 * x) ≡ n + 2 ^ (class + 1) * x
weight_off n class x = weight n (2 ^ class) 0 x ∙ ap (λ v. v + (2 * 2 ^ class) * x) (let z : n + 2 ^ class * 0 ≡ n = omega arith in z) ∙ ap (λ v. n + v * x) (sym (twice class))

weight_on : (n class x : ℕ) → n + 2 ^ class * (1 + 2 * x) ≡ (n + 2 ^ class) + 2 ^ (class + 1) * x
weight_on n class x = weight n (2 ^ class) 1 x ∙ ap (λ v. v + (2 * 2 ^ class) * x) (let z : n + 2 ^ class * 1 ≡ n + 2 ^ class = omega arith in z) ∙ ap (λ v. (n + 2 ^ class) + v * x) (sym (twice class))

-- ---- the second interval

abbrev second_at : Case → ℕ → List Bool → Case
second_at k class bb = with_b k (k.bits_b + 2 ^ class * bits_number bb)

second_off : (k : Case) (class : ℕ) (bss : List (List Bool)) → map (second_at k class) (map (λ bs. false ∷ bs) bss) ≡ map (second_at k (class + 1)) bss
second_off k class [] = refl
second_off k class (bs ∷ bss) =
    ap (λ n. with_b k n ∷ map (second_at k class) (map (λ bs. false ∷ bs) bss)) (weight_off k.bits_b class (bits_number bs)) ∙ ap (λ ks. second_at k (class + 1) bs ∷ ks) (second_off k class bss)

second_on : (k : Case) (class : ℕ) (bss : List (List Bool)) → map (second_at k class) (map (λ bs. true ∷ bs) bss) ≡ map (second_at (with_b k (k.bits_b + 2 ^ class)) (class + 1)) bss
second_on k class [] = refl
second_on k class (bs ∷ bss) =
    ap (λ n. with_b k n ∷ map (second_at k class) (map (λ bs. true ∷ bs) bss)) (weight_on k.bits_b class (bits_number bs))
    ∙ ap (λ ks. second_at (with_b k (k.bits_b + 2 ^ class)) (class + 1) bs ∷ ks) (second_on k class bss)

pub second_step : (k : Case) (class count : ℕ) → 0 < count → second_bits k class count ≡ second_bits k (class + 1) (count - 1) ++ second_bits (with_b k (k.bits_b + 2 ^ class)) (class + 1) (count - 1)
second_step k class zero some = absurd (omega arith)
second_step k class (suc n) some =
    map-append (second_at k class) (map (λ bs. false ∷ bs) (bit_lists n)) (map (λ bs. true ∷ bs) (bit_lists n) ++ [])
    ∙ ap (λ xs. map (second_at k class) (map (λ bs. false ∷ bs) (bit_lists n)) ++ map (second_at k class) xs) (append-nil (map (λ bs. true ∷ bs) (bit_lists n)))
    ∙ ap (λ ks. ks ++ map (second_at k class) (map (λ bs. true ∷ bs) (bit_lists n))) (second_off k class (bit_lists n))
    ∙ ap (λ ks. second_bits k (class + 1) n ++ ks) (second_on k class (bit_lists n))
    ∙ ap (λ m. second_bits k (class + 1) m ++ second_bits (with_b k (k.bits_b + 2 ^ class)) (class + 1) m) (let z : n ≡ suc n - 1 = omega arith in z)

-- ---- the first interval

pub first_end : (k : Case) (class second : ℕ) → first_bits k class 0 second ≡ second_bits k 0 second
first_end k class second =
    append-nil (second_bits (with_a k (k.bits_a + 2 ^ class * 0)) 0 second)
    ∙ ap (λ n. second_bits (with_a k n) 0 second) (let z : k.bits_a + 2 ^ class * 0 ≡ k.bits_a = omega arith in z)

abbrev first_at : Case → ℕ → ℕ → List Bool → List Case
first_at k class second ba = second_bits (with_a k (k.bits_a + 2 ^ class * bits_number ba)) 0 second

first_off : (k : Case) (class second : ℕ) (bss : List (List Bool)) → flat_map (first_at k class second) (map (λ bs. false ∷ bs) bss) ≡ flat_map (first_at k (class + 1) second) bss
first_off k class second [] = refl
first_off k class second (bs ∷ bss) =
    ap (λ n. second_bits (with_a k n) 0 second ++ flat_map (first_at k class second) (map (λ bs. false ∷ bs) bss)) (weight_off k.bits_a class (bits_number bs))
    ∙ ap (λ ks. first_at k (class + 1) second bs ++ ks) (first_off k class second bss)

first_on : (k : Case) (class second : ℕ) (bss : List (List Bool)) → flat_map (first_at k class second) (map (λ bs. true ∷ bs) bss) ≡ flat_map (first_at (with_a k (k.bits_a + 2 ^ class)) (class + 1) second) bss
first_on k class second [] = refl
first_on k class second (bs ∷ bss) =
    ap (λ n. second_bits (with_a k n) 0 second ++ flat_map (first_at k class second) (map (λ bs. true ∷ bs) bss)) (weight_on k.bits_a class (bits_number bs))
    ∙ ap (λ ks. first_at (with_a k (k.bits_a + 2 ^ class)) (class + 1) second bs ++ ks) (first_on k class second bss)

pub first_step : (k : Case) (class count second : ℕ) → 0 < count
    → first_bits k class count second ≡ first_bits k (class + 1) (count - 1) second ++ first_bits (with_a k (k.bits_a + 2 ^ class)) (class + 1) (count - 1) second
first_step k class zero second some = absurd (omega arith)
first_step k class (suc n) second some =
    flat_map-append (first_at k class second) (map (λ bs. false ∷ bs) (bit_lists n)) (map (λ bs. true ∷ bs) (bit_lists n) ++ [])
    ∙ ap (λ xs. flat_map (first_at k class second) (map (λ bs. false ∷ bs) (bit_lists n)) ++ flat_map (first_at k class second) xs) (append-nil (map (λ bs. true ∷ bs) (bit_lists n)))
    ∙ ap (λ ks. ks ++ flat_map (first_at k class second) (map (λ bs. true ∷ bs) (bit_lists n))) (first_off k class second (bit_lists n))
    ∙ ap (λ ks. first_bits k (class + 1) n second ++ ks) (first_on k class second (bit_lists n))
    ∙ ap (λ m. first_bits k (class + 1) m second ++ first_bits (with_a k (k.bits_a + 2 ^ class)) (class + 1) m second) (let z : n ≡ suc n - 1 = omega arith in z)

-- a bit of a class is small
pub small_bit : (class : ℕ) → class ≤ 12 → 2 ^ class ≤ 4096
small_bit class le = pow_mono le

pub next_bit : (n class : ℕ) → n < 2 ^ class → n + 2 ^ class < 2 ^ (class + 1)
next_bit n class lt = let t : 2 ^ (class + 1) ≡ 2 * 2 ^ class = twice class in omega arith

-- ---- the touched ones

pub second_touched : (spec : Spec) (k : Case) (class count w : ℕ) (old one two : List Case) → 0 < count → w ≡ 2 ^ class
    → one ≡ old ++ filter (is_touched_case spec) (second_bits k (class + 1) (count - 1))
    → two ≡ one ++ filter (is_touched_case spec) (second_bits (with_b k (k.bits_b + w)) (class + 1) (count - 1))
    → two ≡ old ++ filter (is_touched_case spec) (second_bits k class count)
second_touched spec k class count w old one two some weighs first_is second_is =
    let off = second_bits k (class + 1) (count - 1) in
    let on = second_bits (with_b k (k.bits_b + 2 ^ class)) (class + 1) (count - 1) in
    second_is ∙ ap (λ v. one ++ filter (is_touched_case spec) (second_bits (with_b k (k.bits_b + v)) (class + 1) (count - 1))) weighs ∙ ap (λ xs. xs ++ filter (is_touched_case spec) on) first_is
    ∙ append_assoc old (filter (is_touched_case spec) off) (filter (is_touched_case spec) on)
    ∙ ap (λ xs. old ++ xs) (sym (filter-append (is_touched_case spec) off on) ∙ ap (filter (is_touched_case spec)) (sym (second_step k class count some)))

pub first_touched : (spec : Spec) (k : Case) (class count second w : ℕ) (old one two : List Case) → 0 < count → w ≡ 2 ^ class
    → one ≡ old ++ filter (is_touched_case spec) (first_bits k (class + 1) (count - 1) second)
    → two ≡ one ++ filter (is_touched_case spec) (first_bits (with_a k (k.bits_a + w)) (class + 1) (count - 1) second)
    → two ≡ old ++ filter (is_touched_case spec) (first_bits k class count second)
first_touched spec k class count second w old one two some weighs first_is second_is =
    let off = first_bits k (class + 1) (count - 1) second in
    let on = first_bits (with_a k (k.bits_a + 2 ^ class)) (class + 1) (count - 1) second in
    second_is ∙ ap (λ v. one ++ filter (is_touched_case spec) (first_bits (with_a k (k.bits_a + v)) (class + 1) (count - 1) second)) weighs ∙ ap (λ xs. xs ++ filter (is_touched_case spec) on) first_is
    ∙ append_assoc old (filter (is_touched_case spec) off) (filter (is_touched_case spec) on)
    ∙ ap (λ xs. old ++ xs) (sym (filter-append (is_touched_case spec) off on) ∙ ap (filter (is_touched_case spec)) (sym (first_step k class count second some)))
