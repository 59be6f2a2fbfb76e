-- Beginnings of lists, and lists with one element changed.
use Rattle.std.proofs.Common.{◌≡◌, ◌≢◌, ◌≤◌, ℕ, zero, suc, List, [], ◌∷◌, ◌++◌, length, set, sym, refl, ap, ◌∙◌, subst, ⊎_elim, append_assoc, append-nil, length-append, arith}
use mathlib.Core.List.{IsPrefix}
use mathlib.Core.Option.{some, some-ne-none}
use lib.ListN.{get_elem?}
use Rattle.atomic_table.proofs.Lists.{at_set}

module _ {X : Type 0} where
  pub prefix_same : (xs ys : List X) → xs ≡ ys → IsPrefix xs ys
  prefix_same xs ys is = ([], append-nil xs ∙ is)

  pub prefix_longer : (xs ys zs : List X) → IsPrefix xs ys → IsPrefix xs (ys ++ zs)
  prefix_longer xs ys zs p = (p.0 ++ zs, sym (append_assoc xs p.0 zs) ∙ ap (λ (l : List X). l ++ zs) p.1)

  pub prefix_length : (xs ys : List X) → IsPrefix xs ys → length xs ≤ length ys
  prefix_length xs ys p = omega (arith, length-append xs p.0, ap length p.1)

  -- a beginning that is as long is the whole
  pub prefix_whole : (xs ys : List X) → IsPrefix xs ys → length ys ≤ length xs → xs ≡ ys
  prefix_whole xs ys ([], is) long = sym (append-nil xs) ∙ is
  prefix_whole xs ys (z ∷ zs, is) long = absurd (omega (arith, length-append xs (z ∷ zs), ap length is))

  -- a place that is only in the longer list is its last
  pub at_end : (l : List X) (a b : X) (j : ℕ) → get_elem? l j ≢ some b → get_elem? (l ++ a ∷ []) j ≡ some b → j ≡ length l
  at_end [] a b zero n e = refl
  at_end [] a b (suc j) n e = absurd (some-ne-none b (sym e))
  at_end (x ∷ xs) a b zero n e = absurd (n e)
  at_end (x ∷ xs) a b (suc j) n e = ap suc (at_end xs a b j n e)

  -- each element, with its place
  abbrev pub Each : (ℕ → X → Type 0) → List X → Type 0
  Each F xs = (i : ℕ) (x : X) → get_elem? xs i ≡ some x → F i x

  pub each_set : (F : ℕ → X → Type 0) (xs : List X) (i : ℕ) (a : X) → F i a → ((j : ℕ) (x : X) → j ≢ i → get_elem? xs j ≡ some x → F j x)
      → Each F (set xs i a)
  each_set F xs i a here others j x there =
      ⊎_elim
      (λ (y : (j ≡ i) × (a ≡ x)). subst (λ (k : ℕ). F k x) (sym y.0) (subst (F i) y.1 here))
      (λ (y : (j ≢ i) × (get_elem? xs j ≡ some x)). others j x y.0 y.1) (at_set xs i j a x there)
