-- The tuples of all that is declared: how many, which one stands at a place, and at which place one stands.
use Rattle.std.proofs.Common.{◌≡◌, inl, inr, ℕ, zero, suc, ◌+◌, ◌-◌, ◌<◌, ◌≤◌, List, [], ◌∷◌, ◌++◌, map, length, get_or, take, drop, refl, sym, ap, ◌∙◌, subst, arith, length-append, Option, Some, None}
use Rattle.std.specs.List.{slice_get, sum_by}
use Rattle.std.specs.Option.{option_map}
use Rattle.std.proofs.lemmas.Bool.{cases_lt}
use Rattle.std.proofs.lemmas.List.{length-map}
use Rattle.std.proofs.lemmas.List.Sums.{sum_by-cons}
use Rattle.std.proofs.lemmas.Option.{slice_get-map}
use Rattle.spec_model.specs.declared.spec.Spec.{Spec}
use Rattle.spec_model.specs.Truths.{Within, size_of}
use Rattle.spec_model.specs.Universe.{tuples, tuple_count, sizes_of}
use Rattle.effect_model.specs.declared.layout.Tuple.{Tuple}
use Rattle.effect_model.specs.Tuples.{count_over, rank, tuple_at}
use Rattle.effect_model.specs.Listed.{tuples_of}
use Rattle.effect_model.proofs.Tuples.{get-left, get-right, length-tuples, get-rank, get-tuples, rank_small, got_tuple}
use Rattle.effect_model.proofs.Sizes.{below_sizes, within_sorts}

-- of the k-th declaration, at these elements
abbrev pub tuple : ℕ → List ℕ → Tuple
tuple k xs = record { of = k; args = xs }

-- the tuples of one declaration
abbrev pub block : {D : Type 0} → Spec → (D → List ℕ) → ℕ → D → List Tuple
block spec sorts k d = map (tuple k) (tuples (sizes_of spec (sorts d)))

pub length-block : {D : Type 0} (spec : Spec) (sorts : D → List ℕ) (k : ℕ) (d : D) → length (block spec sorts k d) ≡ count_over spec sorts d
length-block spec sorts k d = length-map (tuples (sizes_of spec (sorts d))) (tuple k) ∙ length-tuples (sizes_of spec (sorts d))

pub length-all : {D : Type 0} (spec : Spec) (sorts : D → List ℕ) (k : ℕ) (ds : List D) → length (tuples_of spec sorts k ds) ≡ sum_by (count_over spec sorts) ds
length-all spec sorts k [] = refl
length-all spec sorts k (d ∷ ds) =
    length-append (block spec sorts k d) (tuples_of spec sorts (k + 1) ds)
    ∙ omega (arith, length-block spec sorts k d, length-all spec sorts (k + 1) ds, sum_by-cons (count_over spec sorts) d ds)

-- where a tuple stands: behind those of all declarations before its own
abbrev pub place_in : {D : Type 0} → Spec → (D → List ℕ) → List D → ℕ → D → List ℕ → ℕ
place_in spec sorts ds i d xs = sum_by (count_over spec sorts) (take i ds) + rank (sizes_of spec (sorts d)) xs

pub stands_there : {D : Type 0} (spec : Spec) (sorts : D → List ℕ) (k : ℕ) (ds : List D) (i j : ℕ) (d : D) (xs : List ℕ) → slice_get ds i ≡ Some d → Within (size_of spec) (sorts d) xs → j ≡ k + i
    → slice_get (tuples_of spec sorts k ds) (place_in spec sorts ds i d xs) ≡ Some (tuple j xs)
stands_there spec sorts k [] i j d xs at w is = absurd cc
stands_there {D = D} spec sorts k (e ∷ ds) zero j d xs at w is =
    let same : e ≡ d = cc in
    let named : k ≡ j = omega arith in
    let w' = below_sizes spec (sorts d) xs w in
    let small : rank (sizes_of spec (sorts d)) xs < length (block spec sorts k d) = omega (arith, length-block spec sorts k d, rank_small (sizes_of spec (sorts d)) xs w') in
    let one : (z : D) → d ≡ z → slice_get (block spec sorts k z ++ tuples_of spec sorts (k + 1) ds) (rank (sizes_of spec (sorts d)) xs) ≡ Some (tuple j xs) = λ z is. subst (λ (y : D). slice_get (block spec sorts k y ++ tuples_of spec sorts (k + 1) ds) (rank (sizes_of spec (sorts d)) xs) ≡ Some (tuple j xs)) is (
    get-left (block spec sorts k d) (tuples_of spec sorts (k + 1) ds) (rank (sizes_of spec (sorts d)) xs) small
    ∙ slice_get-map (tuple k) (tuples (sizes_of spec (sorts d))) (rank (sizes_of spec (sorts d)) xs)
    ∙ ap (option_map (tuple k)) (get-rank (sizes_of spec (sorts d)) xs w')
    ∙ ap (λ (n : ℕ). Some (tuple n xs)) named) in
    ap (slice_get (block spec sorts k e ++ tuples_of spec sorts (k + 1) ds)) (omega arith) ∙ one e (sym same)
stands_there spec sorts k (e ∷ ds) (suc i) j d xs at w is =
    get-right (block spec sorts k e) (tuples_of spec sorts (k + 1) ds) (place_in spec sorts (e ∷ ds) (suc i) d xs) (place_in spec sorts ds i d xs)
    (omega (arith, length-block spec sorts k e, sum_by-cons (count_over spec sorts) e (take i ds)))
    ∙ stands_there spec sorts (k + 1) ds i j d xs at w (omega arith)

-- what stands at a place: one of these, at elements of its sorts, and its place is this one
pub record StandsIn {D : Type 0} (spec : Spec) (sorts : D → List ℕ) (k : ℕ) (ds : List D) (place : ℕ) (t : Tuple) : Type 0 where
  pub i : ℕ
  pub one : D
  pub one_is : slice_get ds i ≡ Some one
  pub named : t.of ≡ k + i
  pub within : Within (size_of spec) (sorts one) t.args
  pub place_is : place ≡ place_in spec sorts ds i one t.args

in_block : {D : Type 0} (spec : Spec) (sorts : D → List ℕ) (k : ℕ) (d : D) (ds : List D) (place : ℕ) (t : Tuple) → place < length (block spec sorts k d) → slice_get (block spec sorts k d) place ≡ Some t → StandsIn spec sorts k (d ∷ ds) place t
in_block spec sorts k d ds place t lt at =
    let sizes = sizes_of spec (sorts d) in
    let few : place < tuple_count sizes = omega (arith, length-block spec sorts k d) in
    let made : Some (tuple k (tuple_at sizes place)) ≡ Some t = sym (slice_get-map (tuple k) (tuples sizes) place ∙ ap (option_map (tuple k)) (get-tuples sizes place few)) ∙ at in
    let named : k ≡ t.of = ap of_some made in
    let args_are : tuple_at sizes place ≡ t.args = ap args_some made in
    let at_place = got_tuple sizes t.args place few (get-tuples sizes place few ∙ ap Some args_are) in
    record {
      i = 0;
      one = d;
      one_is = refl;
      named = omega arith;
      within = within_sorts spec (sorts d) t.args at_place.within;
      place_is = omega (arith, at_place.rank_is);
    }
  where
    of_some : Option Tuple → ℕ
    of_some None = 0
    of_some (Some u) = u.of

    args_some : Option Tuple → List ℕ
    args_some None = []
    args_some (Some u) = u.args

behind_block : {D : Type 0} (spec : Spec) (sorts : D → List ℕ) (k : ℕ) (d : D) (ds : List D) (place rest : ℕ) (t : Tuple) → place ≡ length (block spec sorts k d) + rest → StandsIn spec sorts (k + 1) ds rest t → StandsIn spec sorts k (d ∷ ds) place t
behind_block spec sorts k d ds place rest t is s = record {
  i = suc s.i;
  one = s.one;
  one_is = s.one_is;
  named = omega (arith, s.named);
  within = s.within;
  place_is = omega (arith, s.place_is, length-block spec sorts k d, sum_by-cons (count_over spec sorts) d (take s.i ds));
}

pub stands_in : {D : Type 0} (spec : Spec) (sorts : D → List ℕ) (k : ℕ) (ds : List D) (place : ℕ) (t : Tuple) → slice_get (tuples_of spec sorts k ds) place ≡ Some t → StandsIn spec sorts k ds place t
stands_in spec sorts k [] place t at = absurd cc
stands_in spec sorts k (d ∷ ds) place t at = elim (cases_lt place (length (block spec sorts k d))) [
  | inl here ↦ in_block spec sorts k d ds place t here (sym (get-left (block spec sorts k d) (tuples_of spec sorts (k + 1) ds) place here) ∙ at)
  | inr behind ↦
      let rest = place - length (block spec sorts k d) in
      behind_block spec sorts k d ds place rest t (omega arith) (stands_in spec sorts (k + 1) ds rest t (sym (get-right (block spec sorts k d) (tuples_of spec sorts (k + 1) ds) place rest (omega arith)) ∙ at))
]

-- what stands first behind the first i is the i-th
pub first_behind : {D : Type 0} (ds rest : List D) (i : ℕ) (d one : D) → slice_get ds i ≡ Some one → rest ≡ drop i ds → d ≡ get_or rest 0 d → d ≡ one
first_behind ds rest i d one at is first = first ∙ ap (λ es. get_or es 0 d) is ∙ head ds i d one at
  where
    head : {D : Type 0} (ds : List D) (i : ℕ) (d one : D) → slice_get ds i ≡ Some one → get_or (drop i ds) 0 d ≡ one
    head [] i d one at = absurd cc
    head (x ∷ ds) zero d one at = cc
    head (x ∷ ds) (suc i) d one at = head ds i d one at

-- a part of a sum with those before it
pub part_small : {D : Type 0} (f : D → ℕ) (ds : List D) (i : ℕ) (d : D) → slice_get ds i ≡ Some d → sum_by f (take i ds) + f d ≤ sum_by f ds
part_small f [] i d at = absurd cc
part_small f (x ∷ ds) zero d at =
    let same : f x ≡ f d = ap (option_map_or f 0) at in
    omega (arith, sum_by-cons f x ds)
  where
    option_map_or : {D : Type 0} → (D → ℕ) → ℕ → Option D → ℕ
    option_map_or f e None = e
    option_map_or f e (Some x) = f x
part_small f (x ∷ ds) (suc i) d at = omega (arith, part_small f ds i d at, sum_by-cons f x (take i ds), sum_by-cons f x ds)
