-- Rows of which one place changes.
use Rattle.std.proofs.Common.{◌≡◌, ◌≢◌, ℕ, ◌<◌, zero, suc, List, [], ◌∷◌, ◌++◌, length, set, get_or, slice_get, ◌==◌, if◌then◌else◌, refl, sym, ap, ◌∙◌, subst, ⊎_elim, ◌⊎◌, inl, inr, Some, arith}
use Rattle.std.proofs.lemmas.Option.{same_Some}
use Rattle.std.specs.Option.{option_map_or}
use Rattle.std.proofs.lemmas.Bool.{cases_eq, eq-eqb, ne_eqb}

module _ {X Y : Type 0} where
  -- what stands at a place of a row, as this list of it
  abbrev pub listed : (ℕ → X → List Y) → List X → ℕ → List Y
  listed f xs j = option_map_or (f j) (slice_get xs j) []

  -- the changed place
  pub here : (f : ℕ → X → List Y) (xs : List X) (i : ℕ) (old new : X) (h : List Y → List Y) → i < length xs → old ≡ get_or xs i old → f i new ≡ h (f i old) → listed f (set xs i new) i ≡ h (listed f xs i)
  here f [] i old new h within at is = absurd (omega (arith, within))
  here f (x ∷ xs) zero old new h within at is = is ∙ ap (λ y. h (f 0 y)) at
  here f (x ∷ xs) (suc i) old new h within at is = here (λ k. f (suc k)) xs i old new h (omega (arith, within)) at is

  -- any other
  pub there : (f : ℕ → X → List Y) (xs : List X) (i : ℕ) (new : X) (j : ℕ) → j ≢ i → listed f (set xs i new) j ≡ listed f xs j
  there f [] i new j other = refl
  there f (x ∷ xs) zero new zero other = absurd (other refl)
  there f (x ∷ xs) zero new (suc j) other = refl
  there f (x ∷ xs) (suc i) new zero other = refl
  there f (x ∷ xs) (suc i) new (suc j) other = there (λ k. f (suc k)) xs i new j (λ same. other (ap suc same))

  -- one place changes
  pub one_changed : (f : ℕ → X → List Y) (xs : List X) (i : ℕ) (old new : X) (h : List Y → List Y) → i < length xs → old ≡ get_or xs i old → f i new ≡ h (f i old)
      → (j : ℕ) → listed f (set xs i new) j ≡ if j == i then h (listed f xs j) else listed f xs j
  one_changed f xs i old new h within at is j =
      ⊎_elim
      (λ (same : j ≡ i). rw (eq-eqb j i same) (subst (λ k. listed f (set xs i new) k ≡ h (listed f xs k)) (sym same) (here f xs i old new h within at is)))
      (λ other. rw (ne_eqb j i other) (there f xs i new j other)) (cases_eq j i)

  -- the changed place has the same
  pub none_more : (f : ℕ → X → List Y) (xs : List X) (i : ℕ) (old new : X) → i < length xs → old ≡ get_or xs i old → f i new ≡ f i old
      → (j : ℕ) → listed f (set xs i new) j ≡ listed f xs j
  none_more f [] i old new within at is j = refl
  none_more f (x ∷ xs) zero old new within at is zero = is ∙ ap (f 0) at
  none_more f (x ∷ xs) zero old new within at is (suc j) = refl
  none_more f (x ∷ xs) (suc i) old new within at is zero = refl
  none_more f (x ∷ xs) (suc i) old new within at is (suc j) = none_more (λ k. f (suc k)) xs i old new (omega (arith, within)) at is j

module _ {X : Type 0} where
  -- what stands in a list that has one more
  pub at_snoc : (xs : List X) (x y : X) (k : ℕ) → slice_get (xs ++ x ∷ []) k ≡ Some y → (slice_get xs k ≡ Some y) ⊎ ((k ≡ length xs) × (x ≡ y))
  at_snoc [] x y zero is = inr (refl, same_Some x y is)
  at_snoc [] x y (suc k) is = absurd cc
  at_snoc (z ∷ xs) x y zero is = inl is
  at_snoc (z ∷ xs) x y (suc k) is = ⊎_elim (λ old. inl old) (λ (last : (k ≡ length xs) × (x ≡ y)). inr (ap suc last.0, last.1)) (at_snoc xs x y k is)

  pub still_there : (xs ys : List X) (k : ℕ) (x : X) → slice_get xs k ≡ Some x → slice_get (xs ++ ys) k ≡ Some x
  still_there [] ys k x is = absurd cc
  still_there (z ∷ xs) ys zero x is = is
  still_there (z ∷ xs) ys (suc k) x is = still_there xs ys k x is

  pub at_last : (xs : List X) (x : X) → slice_get (xs ++ x ∷ []) (length xs) ≡ Some x
  at_last [] x = refl
  at_last (z ∷ xs) x = at_last xs x
