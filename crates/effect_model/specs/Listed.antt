-- The tuples of all that is declared, one declaration after another.
use Rattle.std.specs.Prelude.{◌≡◌, ℕ, ◌+◌, List, [], ◌∷◌, ◌++◌, map, slice_get, Some}
use Rattle.spec_model.specs.declared.spec.Spec.{Spec}
use Rattle.spec_model.specs.Truths.{Within, size_of}
use Rattle.spec_model.specs.Universe.{tuples, sizes_of}
use Rattle.effect_model.specs.declared.layout.Tuple.{Tuple}

-- the tuples of what is declared from the k-th on
abbrev pub tuples_of : {D : Type 0} → Spec → (D → List ℕ) → ℕ → List D → List Tuple
tuples_of spec sorts k [] = []
tuples_of spec sorts k (d ∷ declared) = map (λ args. record { of = k; args = args }) (tuples (sizes_of spec (sorts d))) ++ tuples_of spec sorts (k + 1) declared

-- one of these, at elements of its sorts
pub record TupleFits {D : Type 0} (spec : Spec) (sorts : D → List ℕ) (declared : List D) (tuple : Tuple) : Type 0 where
  pub one : D
  pub one_is : slice_get declared tuple.of ≡ Some one
  pub within : Within (size_of spec) (sorts one) tuple.args
