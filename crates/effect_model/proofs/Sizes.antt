-- Sizes of sorts: none is 0, so no part of a product is greater than the whole.
use Rattle.std.proofs.Common.{◌≡◌, ℕ, zero, suc, ◌+◌, ◌*◌, ◌<◌, ◌≤◌, List, [], ◌∷◌, length, get_or, drop, refl, sym, ap, ◌∙◌, arith, mul_assoc, None}
use Rattle.std.specs.List.{AllByRecursion, slice_get}
use Rattle.std.proofs.lemmas.List.{drop_more}
use Rattle.std.proofs.lemmas.Nat.{mul-le}
use Rattle.spec_model.specs.declared.spec.Spec.{Spec}
use Rattle.spec_model.specs.declared.spec.Sort.{Sort}
use Rattle.spec_model.specs.Fits.{SortFits}
use Rattle.spec_model.specs.Truths.{Within, size_of, no_sort}
use Rattle.spec_model.specs.Universe.{tuple_count, sizes_of}
use Rattle.effect_model.specs.Tuples.{SortsKnown}
use Rattle.effect_model.proofs.Tuples.{Below}

-- what holds of each element of a list holds of the one at a place, and of each that is left
pub all_at : {X : Type 0} (P : X → Type 0) (xs : List X) (i : ℕ) (d : X) → AllByRecursion P xs → i < length xs → P (get_or xs i d)
all_at P [] i d h lt = absurd (omega arith)
all_at P (x ∷ xs) zero d h lt = h.0
all_at P (x ∷ xs) (suc i) d h lt = all_at P xs i d h.1 (omega arith)

pub all_left : {X : Type 0} (P : X → Type 0) (xs : List X) (i : ℕ) → AllByRecursion P xs → AllByRecursion P (drop i xs)
all_left P xs zero h = h
all_left P [] (suc i) h = h
all_left P (x ∷ xs) (suc i) h = all_left P xs i h.1

pub size_some : (spec : Spec) (s : ℕ) → AllByRecursion SortFits spec.sorts → s < length spec.sorts → 1 ≤ size_of spec s
size_some spec s sizes known = (all_at SortFits spec.sorts s no_sort sizes known).some

positive : (a b : ℕ) → 1 ≤ a → 1 ≤ b → 1 ≤ a * b
positive a b p q = mul-le 1 1 a b p q

-- there is some tuple over sorts that have elements
pub count_some : (spec : Spec) (sorts : List ℕ) → AllByRecursion SortFits spec.sorts → SortsKnown spec sorts → 1 ≤ tuple_count (sizes_of spec sorts)
count_some spec [] sizes known = omega arith
count_some spec (s ∷ sorts) sizes known = positive (size_of spec s) (tuple_count (sizes_of spec sorts)) (size_some spec s sizes known.0) (count_some spec sorts sizes known.1)

-- and below sizes with a tuple
pub count_within : (sizes xs : List ℕ) → Below sizes xs → 1 ≤ tuple_count sizes
count_within [] [] w = omega arith
count_within [] (x ∷ xs) w = absurd w
count_within (s ∷ sizes) [] w = absurd w
count_within (s ∷ sizes) (x ∷ xs) w = positive s (tuple_count sizes) (omega (arith, w.0)) (count_within sizes xs w.1)

-- a factor is at most the product
pub factor_small : (a b : ℕ) → 1 ≤ b → a ≤ a * b
factor_small a b some = let le : a * 1 ≤ a * b = mul-le a 1 a b (omega arith) some in omega arith

-- one more size was multiplied
pub count_more : (spec : Spec) (sorts : List ℕ) (i count : ℕ) (d : ℕ) → i < length sorts
    → count * tuple_count (sizes_of spec (drop i sorts)) ≡ tuple_count (sizes_of spec sorts)
    → count * size_of spec (get_or sorts i d) * tuple_count (sizes_of spec (drop (i + 1) sorts)) ≡ tuple_count (sizes_of spec sorts)
count_more spec sorts i count d lt so_far =
    mul_assoc count (size_of spec (get_or sorts i d)) (tuple_count (sizes_of spec (drop (i + 1) sorts)))
    ∙ sym (ap (λ (ss : List ℕ). count * tuple_count (sizes_of spec ss)) (drop_more sorts i d lt)) ∙ so_far

-- elements of sorts are numbers below their sizes
pub below_sizes : (spec : Spec) (sorts xs : List ℕ) → Within (size_of spec) sorts xs → Below (sizes_of spec sorts) xs
below_sizes spec [] [] w = w
below_sizes spec [] (x ∷ xs) w = absurd w
below_sizes spec (s ∷ sorts) [] w = absurd w
below_sizes spec (s ∷ sorts) (x ∷ xs) w = (w.0, below_sizes spec sorts xs w.1)

pub within_sorts : (spec : Spec) (sorts xs : List ℕ) → Below (sizes_of spec sorts) xs → Within (size_of spec) sorts xs
within_sorts spec [] [] w = w
within_sorts spec [] (x ∷ xs) w = absurd w
within_sorts spec (s ∷ sorts) [] w = absurd w
within_sorts spec (s ∷ sorts) (x ∷ xs) w = (w.0, within_sorts spec sorts xs w.1)

pub within_length : (size : ℕ → ℕ) (sorts xs : List ℕ) → Within size sorts xs → length xs ≡ length sorts
within_length size [] [] w = refl
within_length size [] (x ∷ xs) w = absurd w
within_length size (s ∷ sorts) [] w = absurd w
within_length size (s ∷ sorts) (x ∷ xs) w = ap suc (within_length size sorts xs w.1)

-- a sort that isn't declared has no elements
pub size_none : (spec : Spec) (s : ℕ) → None ≡ slice_get spec.sorts s → 0 ≡ size_of spec s
size_none spec s none = ap (λ (sort : Sort). sort.size) (missing spec.sorts s none)
  where
    missing : (sorts : List Sort) (i : ℕ) → None ≡ slice_get sorts i → no_sort ≡ get_or sorts i no_sort
    missing [] i e = refl
    missing (x ∷ sorts) zero e = absurd cc
    missing (x ∷ sorts) (suc i) e = missing sorts i e
