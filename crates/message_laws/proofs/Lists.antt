-- Lists: fronts, what is left, and what is in them.
use Rattle.std.proofs.Common.{◌≡◌, inl, inr, ℕ, zero, suc, ◌+◌, ◌-◌, ◌<◌, ◌≤◌, refl, Bool, List, [], ◌∷◌, ◌++◌, length, filter, take, drop, ap, ◌∙◌, arith}
use Rattle.std.specs.Prelude.{Contains, slice_get, Some, sum_by}
use Rattle.std.specs.List.{AllByRecursion}
use Rattle.std.proofs.lemmas.Bool.{cases_eq, cond_both}
use Rattle.std.proofs.lemmas.List.Sums.{sum_by-cons, sum_by_push}
use Rattle.std.proofs.lemmas.Option.{same_Some}
use Rattle.spec_model.specs.Universe.{below}
use Rattle.run_model.proofs.Lists.{each_weaker}

-- one element more of a front
pub take_at : {X : Type 0} (xs : List X) (k : ℕ) (x : X) → slice_get xs k ≡ Some x → take (k + 1) xs ≡ take k xs ++ x ∷ []
take_at [] k x there = absurd cc
take_at (y ∷ xs) zero x there = ap (λ z. z ∷ []) (same_Some y x there)
take_at {X} (y ∷ xs) (suc k) x there = ap (λ n. take n (y ∷ xs)) (let one : suc k + 1 ≡ suc (k + 1) = omega arith in one) ∙ ap (λ (zs : List X). y ∷ zs) (take_at xs k x there)

-- a front of a front
pub take_front : {X : Type 0} (xs ys : List X) (k : ℕ) → k ≤ length xs → take k (xs ++ ys) ≡ take k xs
take_front [] ys zero le = refl
take_front [] ys (suc k) le = absurd (omega (arith, le))
take_front (x ∷ xs) ys zero le = refl
take_front {X} (x ∷ xs) ys (suc k) le = ap (λ (l : List X). x ∷ l) (take_front xs ys k (omega (arith, le)))

-- what holds of all holds of those in front, and of those behind
pub each_parts : {X : Type 0} (P : X → Type 0) (xs ys : List X) → AllByRecursion P (xs ++ ys) → AllByRecursion P xs × AllByRecursion P ys
each_parts P [] ys h = (tt, h)
each_parts P (x ∷ xs) ys h = let rest = each_parts P xs ys h.1 in ((h.0, rest.0), rest.1)

-- and of those that are left
pub each_dropped : {X : Type 0} (P : X → Type 0) (k : ℕ) (xs : List X) → AllByRecursion P xs → AllByRecursion P (drop k xs)
each_dropped P zero xs all = all
each_dropped P (suc k) [] all = all
each_dropped P (suc k) (x ∷ xs) all = each_dropped P k xs all.1

pub length_dropped : {X : Type 0} (k : ℕ) (xs : List X) → length (drop k xs) ≡ length xs - k
length_dropped zero xs = omega arith
length_dropped (suc k) [] = omega arith
length_dropped (suc k) (x ∷ xs) = let rest = length_dropped k xs in omega (arith, rest)

-- a filter keeps no more than there are
pub filter_short : {X : Type 0} (p : X → Bool) (xs : List X) → length (filter p xs) ≤ length xs
filter_short p [] = omega arith
filter_short {X} p (x ∷ xs) =
    let rest = filter_short p xs in
    cond_both (p x) (x ∷ filter p xs) (filter p xs) (λ (l : List X). length l ≤ length (x ∷ xs)) (λ yes. omega (arith, rest)) (λ no. omega (arith, rest))

-- each element of a list is in it
pub each_among : {X : Type 0} (xs : List X) → AllByRecursion (Contains xs) xs
each_among [] = tt
each_among (x ∷ xs) = ((0, omega arith, refl), each_weaker (Contains xs) (Contains (x ∷ xs)) (λ y h. (suc h.0, omega (arith, h.1), h.2)) xs (each_among xs))

-- what holds at each place holds of each
pub each_place : {X : Type 0} (P : X → Type 0) (xs : List X) → ((k : ℕ) (x : X) → slice_get xs k ≡ Some x → P x) → AllByRecursion P xs
each_place P [] so = tt
each_place P (x ∷ xs) so = (so 0 x refl, each_place P xs (λ k y is. so (suc k) y is))

-- what is at each place at most as great is in all
pub sum_upto : {X : Type 0} (f g : X → ℕ) (xs : List X) → ((k : ℕ) (x : X) → slice_get xs k ≡ Some x → f x ≤ g x) → sum_by f xs ≤ sum_by g xs
sum_upto f g [] le = omega arith
sum_upto f g (x ∷ xs) le = omega (arith, sum_by-cons f x xs, sum_by-cons g x xs, le 0 x refl, sum_upto f g xs (λ k y is. le (suc k) y is))

-- a term of a sum over the replicas is at most the sum
pub term_small : (f : ℕ → ℕ) (n me : ℕ) → me < n → f me ≤ sum_by f (below n)
term_small f zero me lt = absurd (omega (arith, lt))
term_small f (suc n) me lt =
    elim (cases_eq me n) [
      | inl is ↦ omega (arith, ap f is, sum_by_push f (below n) n)
      | inr not ↦ omega (arith, term_small f n me (omega (arith, lt, not)), sum_by_push f (below n) n)
    ]
