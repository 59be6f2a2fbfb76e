-- Places in two lists, one behind the other.
use Rattle.std.proofs.Common.{◌≡◌, ℕ, zero, suc, ◌<◌, ◌≤◌, ◌-◌, List, [], ◌∷◌, ◌++◌, length, get_or, refl, ap, ◌∙◌, arith}
use Rattle.std.specs.Prelude.{slice_get, Some, None}

pub place_front : {X : Type 0} → (xs ys : List X) (n : ℕ) (d : X) → n < length xs → slice_get (xs ++ ys) n ≡ Some (get_or xs n d)
place_front [] ys n d lt = absurd (omega arith)
place_front (x ∷ xs) ys zero d lt = refl
place_front (x ∷ xs) ys (suc n) d lt = place_front xs ys n d (omega arith)

behind : {X : Type 0} → (xs ys : List X) (n : ℕ) → length xs ≤ n → slice_get (xs ++ ys) n ≡ slice_get ys (n - length xs)
behind [] ys n le = ap (slice_get ys) (let z : n ≡ n - 0 = omega arith in z)
behind (x ∷ xs) ys zero le = absurd (omega arith)
behind (x ∷ xs) ys (suc n) le = behind xs ys n (omega arith) ∙ ap (slice_get ys) (let z : n - length xs ≡ suc n - length (x ∷ xs) = omega arith in z)

get_here : {X : Type 0} → (ys : List X) (n : ℕ) (d : X) → n < length ys → slice_get ys n ≡ Some (get_or ys n d)
get_here [] n d lt = absurd (omega arith)
get_here (y ∷ ys) zero d lt = refl
get_here (y ∷ ys) (suc n) d lt = get_here ys n d (omega arith)

get_past : {X : Type 0} → (ys : List X) (n : ℕ) → length ys ≤ n → slice_get ys n ≡ None
get_past [] n le = refl
get_past (y ∷ ys) zero le = absurd (omega arith)
get_past (y ∷ ys) (suc n) le = get_past ys n (omega arith)

pub place_behind : {X : Type 0} → (xs ys : List X) (n : ℕ) (d : X) → length xs ≤ n → n - length xs < length ys → slice_get (xs ++ ys) n ≡ Some (get_or ys (n - length xs) d)
place_behind xs ys n d le lt = behind xs ys n le ∙ get_here ys (n - length xs) d lt

pub place_past : {X : Type 0} → (xs ys : List X) (n : ℕ) → length xs ≤ n → length ys ≤ n - length xs → slice_get (xs ++ ys) n ≡ None
place_past xs ys n le ge = behind xs ys n le ∙ get_past ys (n - length xs) ge
