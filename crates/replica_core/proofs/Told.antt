-- What was told of no one.
use Rattle.std.proofs.Common.{◌≡◌, ℕ, zero, suc, List, [], ◌∷◌, refl}
use Rattle.std.specs.Prelude.{slice_get, slice_index, slice_index_or, None}

-- where nothing was told nothing is known
pub none_told : (told : List (List ℕ)) (to me : ℕ) → slice_get told to ≡ None → 0 ≡ slice_index (slice_index_or told to []) me
none_told [] to me none = refl
none_told (cut ∷ told) zero me none = absurd cc
none_told (cut ∷ told) (suc to) me none = none_told told to me none
