-- All tuples over sizes: how many, which one stands at a place, and at which place one stands.
use Rattle.std.proofs.Common.{◌≡◌, inl, inr, ℕ, zero, suc, ◌+◌, ◌*◌, ◌/◌, ◌%◌, ◌<◌, List, [], ◌∷◌, ◌++◌, map, length, refl, sym, ap, ◌∙◌, subst, arith, length-append, Some}
use Rattle.std.specs.List.{flat_map, slice_get}
use Rattle.std.specs.Option.{option_map}
use Rattle.std.proofs.lemmas.Bool.{cases_lt}
use Rattle.std.proofs.lemmas.List.{length-map}
use Rattle.std.proofs.lemmas.Nat.{mul-add-lt, div_below, mod_below, div-add-mod'}
use Rattle.std.proofs.lemmas.Option.{slice_get-map}
use Rattle.spec_model.specs.Truths.{Within}
use Rattle.spec_model.specs.Universe.{below, tuples, tuple_count}
use Rattle.effect_model.specs.Tuples.{rank, tuple_at}

-- ---- lists

-- an element of two lists joined, in the first or in the second
pub get-left : {X : Type 0} (a b : List X) (k : ℕ) → k < length a → slice_get (a ++ b) k ≡ slice_get a k
get-left [] b k lt = absurd (omega arith)
get-left (x ∷ a) b zero lt = refl
get-left (x ∷ a) b (suc k) lt = get-left a b k (omega arith)

pub get-right : {X : Type 0} (a b : List X) (k m : ℕ) → k ≡ length a + m → slice_get (a ++ b) k ≡ slice_get b m
get-right [] b k m is = ap (slice_get b) (omega arith)
get-right (x ∷ a) b zero m is = absurd (omega arith)
get-right (x ∷ a) b (suc k) m is = get-right a b k m (omega arith)

-- lists of one length after one another: element j of the i-th
pub get-blocks : {X Y : Type 0} (f : X → List Y) (w : ℕ) → ((x : X) → length (f x) ≡ w) → (xs : List X) (i j m : ℕ) (x : X) → slice_get xs i ≡ Some x → j < w → m ≡ i * w + j → slice_get (flat_map f xs) m ≡ slice_get (f x) j
get-blocks f w even [] i j m x at lt is = absurd cc
get-blocks f w even (y ∷ ys) zero j m x at lt is =
    let here : m ≡ j = omega arith in
    let same : y ≡ x = cc in
    get-left (f y) (flat_map f ys) m (omega (arith, even y)) ∙ ap (slice_get (f y)) here ∙ ap (λ z. slice_get (f z) j) same
get-blocks f w even (y ∷ ys) (suc i) j m x at lt is =
    get-right (f y) (flat_map f ys) m (i * w + j) (omega (arith, even y)) ∙ get-blocks f w even ys i j (i * w + j) x at lt refl

pub length-blocks : {X Y : Type 0} (f : X → List Y) (w : ℕ) → ((x : X) → length (f x) ≡ w) → (xs : List X) → length (flat_map f xs) ≡ length xs * w
length-blocks f w even [] = omega arith
length-blocks f w even (x ∷ xs) = length-append (f x) (flat_map f xs) ∙ omega (arith, even x, length-blocks f w even xs)

-- ---- the numbers below a bound

pub length-below : (n : ℕ) → length (below n) ≡ n
length-below zero = refl
length-below (suc n) = length-append (below n) (n ∷ []) ∙ omega (arith, length-below n)

pub get-below : (n k : ℕ) → k < n → slice_get (below n) k ≡ Some k
get-below zero k lt = absurd (omega arith)
get-below (suc n) k lt = elim (cases_lt k n) [
  | inl less ↦ get-left (below n) (n ∷ []) k (omega (arith, length-below n)) ∙ get-below n k less
  | inr not_less ↦ get-right (below n) (n ∷ []) k 0 (omega (arith, length-below n)) ∙ ap Some (omega arith)
]

-- ---- tuples

-- numbers below sizes
abbrev pub Below : List ℕ → List ℕ → Type 0
Below sizes xs = Within (λ s. s) sizes xs

pub length-tuples : (sizes : List ℕ) → length (tuples sizes) ≡ tuple_count sizes
length-tuples [] = refl
length-tuples (s ∷ sizes) =
    length-blocks (λ (x : ℕ). map (λ (xs : List ℕ). x ∷ xs) (tuples sizes)) (tuple_count sizes) (λ x. length-map (tuples sizes) (λ (xs : List ℕ). x ∷ xs) ∙ length-tuples sizes) (below s)
    ∙ ap (λ n. n * tuple_count sizes) (length-below s)

pub rank_small : (sizes xs : List ℕ) → Below sizes xs → rank sizes xs < tuple_count sizes
rank_small [] [] w = omega arith
rank_small [] (x ∷ xs) w = absurd w
rank_small (s ∷ sizes) [] w = absurd w
rank_small (s ∷ sizes) (x ∷ xs) w =
    let lt : x * tuple_count sizes + rank sizes xs < tuple_count sizes * s = mul-add-lt x (tuple_count sizes) (rank sizes xs) s w.0 (rank_small sizes xs w.1) in
    omega arith

-- a tuple stands at its place
pub get-rank : (sizes xs : List ℕ) → Below sizes xs → slice_get (tuples sizes) (rank sizes xs) ≡ Some xs
get-rank [] [] w = refl
get-rank [] (x ∷ xs) w = absurd w
get-rank (s ∷ sizes) [] w = absurd w
get-rank (s ∷ sizes) (x ∷ xs) w =
    let f : ℕ → List (List ℕ) = λ y. map (λ (ys : List ℕ). y ∷ ys) (tuples sizes) in
    get-blocks f (tuple_count sizes) (λ y. length-map (tuples sizes) (λ (ys : List ℕ). y ∷ ys) ∙ length-tuples sizes) (below s) x (rank sizes xs) (x * tuple_count sizes + rank sizes xs) x (get-below s x w.0) (rank_small sizes xs w.1) refl
    ∙ slice_get-map (λ (ys : List ℕ). x ∷ ys) (tuples sizes) (rank sizes xs)
    ∙ ap (option_map (λ (ys : List ℕ). x ∷ ys)) (get-rank sizes xs w.1)

-- what stands at a place is below the sizes, and has that place
pub record StandsAt (sizes : List ℕ) (place : ℕ) (xs : List ℕ) : Type 0 where
  pub within : Below sizes xs
  pub rank_is : rank sizes xs ≡ place

pub some_count : (size count place : ℕ) → place < size * count → 0 < count
some_count size zero place lt = absurd (omega arith)
some_count size (suc count) place lt = omega arith

pub tuple_at_stands : (sizes : List ℕ) (place : ℕ) → place < tuple_count sizes → StandsAt sizes place (tuple_at sizes place)
tuple_at_stands [] place lt = record { within = tt; rank_is = omega arith }
tuple_at_stands (s ∷ sizes) place lt =
    let some : 0 < tuple_count sizes = some_count s (tuple_count sizes) place lt in
    let rest = tuple_at_stands sizes (place % tuple_count sizes) (mod_below place (tuple_count sizes) some) in
    record {
      within = (div_below place (tuple_count sizes) s some lt, rest.within);
      rank_is = ap (λ n. place / tuple_count sizes * tuple_count sizes + n) rest.rank_is ∙ div-add-mod' place (tuple_count sizes);
    }

pub get-tuples : (sizes : List ℕ) (place : ℕ) → place < tuple_count sizes → slice_get (tuples sizes) place ≡ Some (tuple_at sizes place)
get-tuples sizes place lt =
    let at = tuple_at_stands sizes place lt in
    ap (slice_get (tuples sizes)) (sym at.rank_is) ∙ get-rank sizes (tuple_at sizes place) at.within

-- a tuple that stands at a place has that place
pub got_tuple : (sizes xs : List ℕ) (place : ℕ) → place < tuple_count sizes → slice_get (tuples sizes) place ≡ Some xs → StandsAt sizes place xs
got_tuple sizes xs place lt is =
    let both : Some (tuple_at sizes place) ≡ Some xs = sym (get-tuples sizes place lt) ∙ is in
    let same : tuple_at sizes place ≡ xs = cc in
    subst (StandsAt sizes place) same (tuple_at_stands sizes place lt)

-- a place is that of the tuple that stands there
pub at_rank : (sizes xs : List ℕ) → Below sizes xs → tuple_at sizes (rank sizes xs) ≡ xs
at_rank sizes xs w =
    let both : Some (tuple_at sizes (rank sizes xs)) ≡ Some xs = sym (get-tuples sizes (rank sizes xs) (rank_small sizes xs w)) ∙ get-rank sizes xs w in
    cc
