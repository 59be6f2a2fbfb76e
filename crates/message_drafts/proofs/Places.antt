-- Lists up to a place, and from it on.
use Rattle.std.proofs.Common.{◌≡◌, ℕ, zero, suc, ◌+◌, ◌-◌, ◌<◌, ◌≤◌, refl, List, [], ◌∷◌, ◌++◌, length, get_or, take, drop, sym, ap, ◌∙◌, arith}
use Rattle.std.specs.Prelude.{slice_get, Some}
use Rattle.std.proofs.lemmas.Option.{same_Some}

-- one element more
pub take_more : {X : Type 0} (xs : List X) (k : ℕ) (x : X) → k < length xs → x ≡ get_or xs k x → take (k + 1) xs ≡ take k xs ++ x ∷ []
take_more [] k x lt is = absurd (omega (arith, lt))
take_more (y ∷ xs) zero x lt is = ap (λ z. z ∷ []) (sym is)
take_more {X} (y ∷ xs) (suc k) x lt is = ap (λ n. take n (y ∷ xs)) (let one : suc k + 1 ≡ suc (k + 1) = omega arith in one) ∙ ap (λ (zs : List X). y ∷ zs) (take_more xs k x (omega (arith, lt)) is)

-- an element and those behind it
pub drop_at_item : {X : Type 0} (xs : List X) (k : ℕ) (x : X) → k < length xs → x ≡ get_or xs k x → drop k xs ≡ x ∷ drop (k + 1) xs
drop_at_item [] k x lt is = absurd (omega (arith, lt))
drop_at_item {X} (y ∷ xs) zero x lt is = ap (λ z. z ∷ xs) (sym is)
drop_at_item {X} (y ∷ xs) (suc k) x lt is = drop_at_item xs k x (omega (arith, lt)) is ∙ ap (λ n. x ∷ drop n (y ∷ xs)) (let one : suc (k + 1) ≡ suc k + 1 = omega arith in one)

-- the same by the element that stands there
pub take_at : {X : Type 0} (xs : List X) (k : ℕ) (x : X) → slice_get xs k ≡ Some x → take (k + 1) xs ≡ take k xs ++ x ∷ []
take_at [] k x there = absurd cc
take_at (y ∷ xs) zero x there = ap (λ z. z ∷ []) (same_Some y x there)
take_at {X} (y ∷ xs) (suc k) x there = ap (λ n. take n (y ∷ xs)) (let one : suc k + 1 ≡ suc (k + 1) = omega arith in one) ∙ ap (λ (zs : List X). y ∷ zs) (take_at xs k x there)

pub drop_from : {X : Type 0} (xs : List X) (k : ℕ) (x : X) → slice_get xs k ≡ Some x → drop k xs ≡ x ∷ drop (k + 1) xs
drop_from [] k x there = absurd cc
drop_from {X} (y ∷ xs) zero x there = ap (λ z. z ∷ xs) (same_Some y x there)
drop_from {X} (y ∷ xs) (suc k) x there = drop_from xs k x there ∙ ap (λ n. x ∷ drop n (y ∷ xs)) (let one : suc (k + 1) ≡ suc k + 1 = omega arith in one)

-- a front of a front
pub take_front : {X : Type 0} (xs ys : List X) (k : ℕ) → k ≤ length xs → take k (xs ++ ys) ≡ take k xs
take_front [] ys zero le = refl
take_front [] ys (suc k) le = absurd (omega (arith, le))
take_front (x ∷ xs) ys zero le = refl
take_front {X} (x ∷ xs) ys (suc k) le = ap (λ (l : List X). x ∷ l) (take_front xs ys k (omega (arith, le)))

pub take_less : {X : Type 0} (xs : List X) (k n : ℕ) → k ≤ n → take k (take n xs) ≡ take k xs
take_less xs zero n le = refl
take_less [] (suc k) zero le = absurd (omega (arith, le))
take_less [] (suc k) (suc n) le = refl
take_less (x ∷ xs) (suc k) zero le = absurd (omega (arith, le))
take_less {X} (x ∷ xs) (suc k) (suc n) le = ap (λ (l : List X). x ∷ l) (take_less xs k n (omega (arith, le)))

take_none : {X : Type 0} (n : ℕ) → [] ≡ take {A = X} n []
take_none zero = refl
take_none (suc n) = refl

-- what is behind in a front
pub drop_take : {X : Type 0} (xs : List X) (d k : ℕ) → drop d (take k xs) ≡ take (k - d) (drop d xs)
drop_take xs zero k = ap (λ n. take n xs) (let same : k ≡ k - 0 = omega arith in same)
drop_take [] (suc d) zero = take_none (0 - suc d)
drop_take [] (suc d) (suc k) = take_none (suc k - suc d)
drop_take {X} (x ∷ xs) (suc d) zero = ap (λ n. take n (drop d xs)) (let same : 0 ≡ 0 - suc d = omega arith in same)
drop_take (x ∷ xs) (suc d) (suc k) = drop_take xs d k ∙ ap (λ n. take n (drop d xs)) (let same : k - d ≡ suc k - suc d = omega arith in same)
