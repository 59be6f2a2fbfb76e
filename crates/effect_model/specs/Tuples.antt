-- The places of tuples among all tuples, in lexicographic order.
use Rattle.std.specs.Prelude.{ℕ, ◌+◌, ◌*◌, ◌/◌, ◌%◌, ◌<◌, List, [], ◌∷◌, length}
use Rattle.std.specs.List.{AllByRecursion}
use Rattle.spec_model.specs.declared.spec.Spec.{Spec}
use Rattle.spec_model.specs.Universe.{tuple_count, sizes_of}

-- sorts of the specification
abbrev pub SortsKnown : Spec → List ℕ → Type 0
SortsKnown spec sorts = AllByRecursion (λ s. s < length spec.sorts) sorts

-- how many tuples there are over the sorts of what is declared
abbrev pub count_over : {D : Type 0} → Spec → (D → List ℕ) → D → ℕ
count_over spec sorts d = tuple_count (sizes_of spec (sorts d))

-- the place of a tuple among those with numbers below these sizes: each step of a number passes all tuples of the places behind it
abbrev pub rank : List ℕ → List ℕ → ℕ
rank [] xs = 0
rank (size ∷ sizes) [] = 0
rank (size ∷ sizes) (x ∷ xs) = x * tuple_count sizes + rank sizes xs

-- the tuple at a place
abbrev pub tuple_at : List ℕ → ℕ → List ℕ
tuple_at [] place = []
tuple_at (size ∷ sizes) place = place / tuple_count sizes ∷ tuple_at sizes (place % tuple_count sizes)
