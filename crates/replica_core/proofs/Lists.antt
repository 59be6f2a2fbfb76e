-- Lists up to a place, and from it on.
use Rattle.std.proofs.Common.{◌≡◌, ℕ, zero, suc, ◌+◌, ◌<◌, refl, List, [], ◌∷◌, ◌++◌, length, get_or, map, filter, take, drop, Bool, sym, ap, subst, ◌∙◌, arith}
use Rattle.std.specs.Prelude.{slice_get, Some}
use Rattle.std.proofs.lemmas.List.{map-append}
use Rattle.std.proofs.lemmas.List.Elements.{filter-append}
use Rattle.message_laws.proofs.Lists.{take_at}

-- one element more
pub take_more : {X : Type 0} (xs : List X) (k : ℕ) (x : X) → k < length xs → x ≡ get_or xs k x → take (k + 1) xs ≡ take k xs ++ x ∷ []
take_more [] k x lt is = absurd (omega (arith, lt))
take_more (y ∷ xs) zero x lt is = ap (λ z. z ∷ []) (sym is)
take_more {X} (y ∷ xs) (suc k) x lt is = ap (λ n. take n (y ∷ xs)) (let one : suc k + 1 ≡ suc (k + 1) = omega arith in one) ∙ ap (λ (zs : List X). y ∷ zs) (take_more xs k x (omega (arith, lt)) is)

pub map_take_more : {X Y : Type 0} (f : X → Y) (xs : List X) (k : ℕ) (x : X) → k < length xs → x ≡ get_or xs k x → map f (take (k + 1) xs) ≡ map f (take k xs) ++ f x ∷ []
map_take_more f xs k x lt is = ap (map f) (take_more xs k x lt is) ∙ map-append f (take k xs) (x ∷ [])

-- an element and those behind it
pub drop_at_item : {X : Type 0} (xs : List X) (k : ℕ) (x : X) → k < length xs → x ≡ get_or xs k x → drop k xs ≡ x ∷ drop (k + 1) xs
drop_at_item [] k x lt is = absurd (omega (arith, lt))
drop_at_item {X} (y ∷ xs) zero x lt is = ap (λ z. z ∷ xs) (sym is)
drop_at_item {X} (y ∷ xs) (suc k) x lt is = drop_at_item xs k x (omega (arith, lt)) is ∙ ap (λ n. x ∷ drop n (y ∷ xs)) (let one : suc (k + 1) ≡ suc k + 1 = omega arith in one)

-- the same by the element that stands there
pub filter_at : {X : Type 0} (p : X → Bool) (xs : List X) (k : ℕ) (x : X) → slice_get xs k ≡ Some x → filter p (take (k + 1) xs) ≡ filter p (take k xs) ++ filter p (x ∷ [])
filter_at p xs k x there = ap (filter p) (take_at xs k x there) ∙ filter-append p (take k xs) (x ∷ [])

pub map_at : {X Y : Type 0} (f : X → Y) (xs : List X) (k : ℕ) (x : X) → slice_get xs k ≡ Some x → map f (take (k + 1) xs) ≡ map f (take k xs) ++ f x ∷ []
map_at f xs k x there = ap (map f) (take_at xs k x there) ∙ map-append f (take k xs) (x ∷ [])

-- an item and those behind it
pub drop_step : {X : Type 0} (P : List X → Type 0) (items : List X) (k : ℕ) (x : X) → k < length items → x ≡ get_or items k x → P (drop k items) → P (x ∷ drop (k + 1) items)
drop_step P [] k x lt is h = absurd (omega (arith, lt))
drop_step P (y ∷ items) zero x lt is h = subst (λ z. P (z ∷ items)) (sym is) h
drop_step P (y ∷ items) (suc k) x lt is h = subst (λ n. P (x ∷ drop n (y ∷ items))) (let one : suc (k + 1) ≡ suc k + 1 = omega arith in one) (drop_step P items k x (omega (arith, lt)) is h)

-- the items up to one and it
pub take_step : {X : Type 0} (items : List X) (k : ℕ) (x : X) → k < length items → x ≡ get_or items k x → take k items ++ x ∷ [] ≡ take (k + 1) items
take_step [] k x lt is = absurd (omega (arith, lt))
take_step (y ∷ items) zero x lt is = ap (λ z. z ∷ []) is
take_step {X} (y ∷ items) (suc k) x lt is = ap (λ (zs : List X). y ∷ zs) (take_step items k x (omega (arith, lt)) is) ∙ ap (λ n. take n (y ∷ items)) (let one : suc (k + 1) ≡ suc k + 1 = omega arith in one)

-- what stands in front, and behind
pub front_of : {X : Type 0} (xs ys : List X) (n : ℕ) → n ≡ length xs → take n (xs ++ ys) ≡ xs
front_of [] ys zero is = refl
front_of [] ys (suc n) is = absurd (omega (arith, is))
front_of (x ∷ xs) ys zero is = absurd (omega (arith, is))
front_of {X} (x ∷ xs) ys (suc n) is = ap (λ (l : List X). x ∷ l) (front_of xs ys n (omega (arith, is)))

pub back_of : {X : Type 0} (xs ys : List X) (n : ℕ) → n ≡ length xs → drop n (xs ++ ys) ≡ ys
back_of [] ys zero is = refl
back_of [] ys (suc n) is = absurd (omega (arith, is))
back_of (x ∷ xs) ys zero is = absurd (omega (arith, is))
back_of (x ∷ xs) ys (suc n) is = back_of xs ys n (omega (arith, is))
