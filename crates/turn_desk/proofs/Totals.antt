-- Sums over the views of all passes.
use Rattle.std.proofs.Common.{◌≡◌, ◌≢◌, ◌+◌, ◌≤◌, ℕ, zero, suc, List, [], ◌∷◌, set, sym, refl, ap, arith}
use Rattle.std.proofs.lemmas.List.Sums.{sum_by-cons}
use Rattle.std.specs.Prelude.{sum_by}
use mathlib.Core.Option.{some, some-ne-none, some-injective}
use lib.ListN.{get_elem?}

module _ {X : Type 0} (f : X → ℕ) where
  pub sum_by_set : (xs : List X) (i : ℕ) (x y : X) → get_elem? xs i ≡ some x
      → sum_by f (set xs i y) + f x ≡ sum_by f xs + f y
  sum_by_set [] i x y e = absurd (some-ne-none x (sym e))
  sum_by_set (z ∷ xs) zero x y e =
      let same : z ≡ x = some-injective z x e in
      omega (arith, ap f same, sum_by-cons f z xs, sum_by-cons f y xs)
  sum_by_set (z ∷ xs) (suc i) x y e =
      omega (arith, sum_by_set xs i x y e, sum_by-cons f z xs, sum_by-cons f z (set xs i y))

  -- one member is no more than all
  pub one_of_all : (xs : List X) (i : ℕ) (x : X) → get_elem? xs i ≡ some x → f x ≤ sum_by f xs
  one_of_all [] i x e = absurd (some-ne-none x (sym e))
  one_of_all (z ∷ xs) zero x e =
      let same : z ≡ x = some-injective z x e in
      omega (arith, ap f same, sum_by-cons f z xs)
  one_of_all (z ∷ xs) (suc i) x e = omega (arith, one_of_all xs i x e, sum_by-cons f z xs)

  -- two members at two places are no more than all
  pub two_of_all : (xs : List X) (i j : ℕ) (x y : X) → i ≢ j → get_elem? xs i ≡ some x → get_elem? xs j ≡ some y
      → f x + f y ≤ sum_by f xs
  two_of_all [] i j x y apart e d = absurd (some-ne-none x (sym e))
  two_of_all (z ∷ xs) zero zero x y apart e d = absurd (apart refl)
  two_of_all (z ∷ xs) zero (suc j) x y apart e d =
      let same : z ≡ x = some-injective z x e in
      omega (arith, ap f same, one_of_all xs j y d, sum_by-cons f z xs)
  two_of_all (z ∷ xs) (suc i) zero x y apart e d =
      let same : z ≡ y = some-injective z y d in
      omega (arith, ap f same, one_of_all xs i x e, sum_by-cons f z xs)
  two_of_all (z ∷ xs) (suc i) (suc j) x y apart e d =
      omega (arith, two_of_all xs i j x y (λ same. apart (ap suc same)) e d, sum_by-cons f z xs)

  none_have : (xs : List X) → ((j : ℕ) (y : X) → get_elem? xs j ≡ some y → f y ≡ 0) → sum_by f xs ≡ 0
  none_have [] rest = refl
  none_have (z ∷ xs) rest =
      omega (arith, rest 0 z refl, none_have xs (λ j y at. rest (suc j) y at), sum_by-cons f z xs)

  -- where the others have none, one member has all
  pub only_one : (xs : List X) (i : ℕ) (x : X) → get_elem? xs i ≡ some x
      → ((j : ℕ) (y : X) → j ≢ i → get_elem? xs j ≡ some y → f y ≡ 0) → sum_by f xs ≡ f x
  only_one [] i x e rest = absurd (some-ne-none x (sym e))
  only_one (z ∷ xs) zero x e rest =
      let same : z ≡ x = some-injective z x e in
      let none = none_have xs (λ j y at. rest (suc j) y (λ same. omega arith) at) in
      omega (arith, ap f same, none, sum_by-cons f z xs)
  only_one (z ∷ xs) (suc i) x e rest =
      let later = only_one xs i x e (λ j y apart at. rest (suc j) y (λ same. apart (omega arith)) at) in
      omega (arith, rest 0 z (λ same. omega arith) refl, later, sum_by-cons f z xs)

-- where no member has more of f than of g, all together don't
pub sum_by_le : {X : Type 0} (f g : X → ℕ) (xs : List X) → ((i : ℕ) (x : X) → get_elem? xs i ≡ some x → f x ≤ g x)
    → sum_by f xs ≤ sum_by g xs
sum_by_le f g [] each = omega arith
sum_by_le f g (x ∷ xs) each =
    omega (arith, each 0 x refl, sum_by_le f g xs (λ i y at. each (suc i) y at), sum_by-cons f x xs, sum_by-cons g x xs)
