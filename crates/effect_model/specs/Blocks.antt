-- Where the tuples of each declaration begin.
use Rattle.std.specs.Prelude.{◌≡◌, ℕ, ◌+◌, ◌≤◌, List, [], ◌∷◌, slice_get, Some}
use Rattle.spec_model.specs.declared.spec.Num.{Num}
use Rattle.spec_model.specs.declared.spec.Pred.{Pred}
use Rattle.spec_model.specs.declared.spec.Spec.{Spec}
use Rattle.spec_model.specs.Truths.{Within}
use Rattle.spec_model.specs.Universe.{sizes_of, tuple_count}
use Rattle.effect_model.specs.declared.block.Block.{Block}
use Rattle.effect_model.specs.Tuples.{count_over, rank}

-- of each declaration the first place of its tuples, from this one on, and the sizes of its sorts
abbrev pub blocks_from : {D : Type 0} → Spec → (D → List ℕ) → ℕ → List D → List Block
blocks_from spec sorts start [] = []
blocks_from spec sorts start (d ∷ declared) = record { start = start; sizes = sizes_of spec (sorts d) } ∷ blocks_from spec sorts (start + count_over spec sorts d) declared

-- of all predicates, and of all numbers
abbrev pub pred_blocks : Spec → List Block
pred_blocks spec = blocks_from spec (λ (p : Pred). p.sorts) 0 spec.preds

abbrev pub num_blocks : Spec → List Block
num_blocks spec = blocks_from spec (λ (n : Num). n.sorts) 0 spec.nums

-- a tuple below the sizes of one of these, whose last place is small
pub record BlockFits (blocks : List Block) (i : ℕ) (xs : List ℕ) : Type 0 where
  pub one : Block
  pub one_is : slice_get blocks i ≡ Some one
  pub within : Within (λ s. s) one.sizes xs
  pub small : one.start + tuple_count one.sizes ≤ 65536

-- the place of a tuple of one of these
abbrev pub IsBlockPlace : List Block → ℕ → List ℕ → ℕ → Type 0
IsBlockPlace blocks i xs place = (one : Block) → slice_get blocks i ≡ Some one → place ≡ one.start + rank one.sizes xs
