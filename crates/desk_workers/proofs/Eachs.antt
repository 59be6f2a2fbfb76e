-- What stands at one place of two lists that grow or change.
use Rattle.std.proofs.Common.{◌≡◌, ◌⊎◌, inl, inr, ◌<◌, ◌≤◌, ℕ, zero, suc, List, [], ◌∷◌, ◌++◌, length, take, drop, slice_get, slice_set, Some, sym, refl, subst, arith}
use Rattle.std.proofs.lemmas.Option.{same_Some, none-some, slice_get_within}
use Rattle.std.proofs.lemmas.Grind.{common_steps}
use Rattle.desk_workers.specs.Places.{Each}

pub get_push : {X : Type 0} (xs : List X) (x y : X) (at : ℕ) → slice_get (xs ++ x ∷ []) at ≡ Some y → (slice_get xs at ≡ Some y) ⊎ ((at ≡ length xs) × (x ≡ y))
get_push [] x y zero is = inr (refl, same_Some x y is)
get_push [] x y (suc at) is = absurd (none-some y is)
get_push (z ∷ xs) x y zero is = inl is
get_push (z ∷ xs) x y (suc at) is = get_push_on xs x y at (get_push xs x y at is) where
  get_push_on : (xs : List _) (x y : _) (at : ℕ) → (slice_get xs at ≡ Some y) ⊎ ((at ≡ length xs) × (x ≡ y)) → (slice_get xs at ≡ Some y) ⊎ ((suc at ≡ length (z ∷ xs)) × (x ≡ y))
  get_push_on xs x y at (inl h) = inl h
  get_push_on xs x y at (inr (e, s)) = inr (omega (arith, e), s)

pub get_set : {X : Type 0} (ys : List X) (at : ℕ) (new y : X) (k : ℕ) → slice_get (slice_set ys at new) k ≡ Some y → ((k ≡ at) × (new ≡ y)) ⊎ ((k ≡ at → ⊥) × (slice_get ys k ≡ Some y))
get_set [] at new y k is = absurd (none-some y is)
get_set (z ∷ ys) zero new y zero is = inl (refl, same_Some new y is)
get_set (z ∷ ys) zero new y (suc k) is = inr ((λ e. omega (arith, e)), is)
get_set (z ∷ ys) (suc at) new y zero is = inr ((λ e. omega (arith, e)), is)
get_set (z ∷ ys) (suc at) new y (suc k) is = go (get_set ys at new y k is) where
  go : ((k ≡ at) × (new ≡ y)) ⊎ ((k ≡ at → ⊥) × (slice_get ys k ≡ Some y)) → ((suc k ≡ suc at) × (new ≡ y)) ⊎ ((suc k ≡ suc at → ⊥) × (slice_get ys k ≡ Some y))
  go (inl (e, s)) = inl (omega (arith, e), s)
  go (inr (e, s)) = inr ((λ h. e (omega (arith, h))), s)

pub beyond : {X : Type 0} (xs : List X) (at : ℕ) (x : X) → slice_get xs at ≡ Some x → length xs ≤ at → ⊥
beyond xs at x is past = let within = slice_get_within xs at x is in omega (arith, within, past)

-- the one in the middle
pub get_middle : {X : Type 0} (xs : List X) (x : X) (ys all : List X) → xs ++ x ∷ ys ≡ all → slice_get all (length xs) ≡ Some x
get_middle {X = X} xs x ys all is = subst (λ (l : List X). slice_get l (length xs) ≡ Some x) is (here xs) where
  here : (xs : List X) → slice_get (xs ++ x ∷ ys) (length xs) ≡ Some x
  here [] = refl
  here (z ∷ xs) = let e : suc (length xs) ≡ length (z ∷ xs) = omega arith in subst (λ (n : ℕ). slice_get ((z ∷ xs) ++ x ∷ ys) n ≡ Some x) e (here xs)

pub each_push : {X Y : Type 0} (P : ℕ → X → Y → Type 0) (xs : List X) (ys : List Y) (x : X) (y : Y) → length ys ≡ length xs → Each P xs ys → P (length xs) x y → Each P (xs ++ x ∷ []) (ys ++ y ∷ [])
each_push P xs ys x y same each last at a b is_a is_b = go (get_push xs x a at is_a) (get_push ys y b at is_b) where
  go : (slice_get xs at ≡ Some a) ⊎ ((at ≡ length xs) × (x ≡ a)) → (slice_get ys at ≡ Some b) ⊎ ((at ≡ length ys) × (y ≡ b)) → P at a b
  go (inl h) (inl k) = each at a b h k
  go (inl h) (inr (e, k)) = absurd (beyond xs at a h (omega (arith, e, same)))
  go (inr (e, h)) (inl k) = absurd (beyond ys at b k (omega (arith, e, same)))
  go (inr (e, h)) (inr (_, k)) = subst (λ (n : ℕ). P n a b) (sym e) (subst (λ a'. P (length xs) a' b) h (subst (λ b'. P (length xs) x b') k last))

-- one that changes, and all others
pub each_set : {X Y : Type 0} (P Q : ℕ → X → Y → Type 0) (xs : List X) (ys : List Y) (at : ℕ) (new : Y) → Each P xs ys
    → ((k : ℕ) (x : X) (y : Y) → (k ≡ at → ⊥) → P k x y → Q k x y) → ((x : X) → slice_get xs at ≡ Some x → Q at x new) → Each Q xs (slice_set ys at new)
each_set P Q xs ys at new each others here k a b is_a is_b = go (get_set ys at new b k is_b) where
  go : ((k ≡ at) × (new ≡ b)) ⊎ ((k ≡ at → ⊥) × (slice_get ys k ≡ Some b)) → Q k a b
  go (inl (e, s)) = subst (λ b'. Q k a b') s (subst (λ (n : ℕ). Q n a new) (sym e) (here a (subst (λ (n : ℕ). slice_get xs n ≡ Some a) e is_a)))
  go (inr (e, s)) = others k a b e (each k a b is_a s)

pub get_set_other : {X : Type 0} (ys : List X) (at : ℕ) (new : X) (k : ℕ) → (k ≡ at → ⊥) → slice_get (slice_set ys at new) k ≡ slice_get ys k
get_set_other [] at new k apart = refl
get_set_other (z ∷ ys) zero new zero apart = absurd (apart refl)
get_set_other (z ∷ ys) zero new (suc k) apart = refl
get_set_other (z ∷ ys) (suc at) new zero apart = refl
get_set_other (z ∷ ys) (suc at) new (suc k) apart = get_set_other ys at new k (λ e. apart (omega (arith, e)))

pub none_left : {X : Type 0} (xs : List X) → length xs ≡ 0 → xs ≡ []
none_left [] is = refl
none_left (x ∷ xs) is = absurd (omega (arith, is))

-- all were taken
pub yielded_all : {X : Type 0} (all so_far rest : List X) → so_far ++ rest ≡ all → length rest ≡ 0 → so_far ≡ all
yielded_all all so_far rest whole none = let empty = none_left rest none in grind (arith, common_steps)

-- a place within the list has a member
pub there_is : {X : Type 0} (xs : List X) (k : ℕ) → k < length xs → (x : X) × (slice_get xs k ≡ Some x)
there_is [] k within = absurd (omega (arith, within))
there_is (x ∷ xs) zero within = (x, refl)
there_is (x ∷ xs) (suc k) within = there_is xs k (omega (arith, within))

-- a slice that was lent is written back whole
pub written_back : {X : Type 0} (new old : List X) (n : ℕ) → n ≡ length old → length new ≡ length old → take n (new ++ drop (length new) old) ≡ new
written_back new old n is same = grind (arith, common_steps)
