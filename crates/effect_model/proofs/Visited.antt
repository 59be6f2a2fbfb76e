-- A walk over tuples: what is done at those that begin with some elements, element by element.
use Rattle.std.proofs.Common.{◌≡◌, ℕ, zero, suc, ◌+◌, ◌<◌, ◌≤◌, List, [], ◌∷◌, ◌++◌, map, length, get_or, take, drop, refl, sym, ap, ◌∙◌, arith, add-one, append_assoc}
use Rattle.std.specs.List.{flat_map}
use Rattle.std.proofs.lemmas.List.{append-nil}
use Rattle.std.proofs.lemmas.List.Concat.{flat_map-append}
use Rattle.spec_model.specs.Universe.{below, tuples}
use Rattle.effect_model.specs.Visits.{done_all}
use Rattle.effect_model.proofs.Walks.{gap}

pub done_append : {X K : Type 0} (f : X → K → K) (xs ys : List X) (kept : K) → done_all f (xs ++ ys) kept ≡ done_all f ys (done_all f xs kept)
done_append f [] ys kept = refl
done_append f (x ∷ xs) ys kept = done_append f xs ys (f x kept)

pub done_map : {X Y K : Type 0} (f : Y → K → K) (g : X → Y) (xs : List X) (kept : K) → done_all f (map g xs) kept ≡ done_all (λ x. f (g x)) xs kept
done_map f g [] kept = refl
done_map f g (x ∷ xs) kept = done_map f g xs (f (g x) kept)

pub done_same : {X K : Type 0} (f g : X → K → K) → ((x : X) (kept : K) → f x kept ≡ g x kept) → (xs : List X) (kept : K) → done_all f xs kept ≡ done_all g xs kept
done_same f g same [] kept = refl
done_same f g same (x ∷ xs) kept = done_same f g same xs (f x kept) ∙ ap (done_all g xs) (same x kept)

done_none : {X K : Type 0} (f : X → K → K) → ((x : X) (kept : K) → f x kept ≡ kept) → (xs : List X) (kept : K) → done_all f xs kept ≡ kept
done_none f none [] kept = refl
done_none f none (x ∷ xs) kept = done_none f none xs (f x kept) ∙ none x kept

-- what is done at the tuples that begin so
abbrev pub done_behind : {K : Type 0} → (List ℕ → K → K) → List ℕ → List ℕ → K → K
done_behind f front sizes kept = done_all (λ behind. f (front ++ behind)) (tuples sizes) kept

-- what is done at those that go on with a number below x
abbrev pub done_upto : {K : Type 0} → (List ℕ → K → K) → List ℕ → List ℕ → ℕ → K → K
done_upto f front others x kept = done_all (λ behind. f (front ++ behind)) (flat_map (λ y. map (λ xs. y ∷ xs) (tuples others)) (below x)) kept

-- one more element
done_more : {K : Type 0} (f : List ℕ → K → K) (front others : List ℕ) (x : ℕ) (kept : K) → done_upto f front others (x + 1) kept ≡ done_behind f (front ++ x ∷ []) others (done_upto f front others x kept)
done_more f front others x kept =
    let g : ℕ → List (List ℕ) = λ y. map (λ (xs : List ℕ). y ∷ xs) (tuples others) in
    let h : List ℕ → _ → _ = λ behind. f (front ++ behind) in
    ap (λ n. done_upto f front others n kept) (add-one x)
    ∙ ap (λ (ts : List (List ℕ)). done_all h ts kept) (flat_map-append g (below x) (x ∷ []))
    ∙ done_append h (flat_map g (below x)) (g x ++ []) kept
    ∙ ap (λ (ts : List (List ℕ)). done_all h ts (done_upto f front others x kept)) (append-nil (g x))
    ∙ done_map h (λ (xs : List ℕ). x ∷ xs) (tuples others) (done_upto f front others x kept)
    ∙ done_same (λ (xs : List ℕ). f (front ++ x ∷ xs)) (λ (xs : List ℕ). f ((front ++ x ∷ []) ++ xs)) (λ xs k. ap (λ (ys : List ℕ). f ys k) (sym (append_assoc front (x ∷ []) xs))) (tuples others) (done_upto f front others x kept)

-- elements at which nothing is done
done_skip : {K : Type 0} (f : List ℕ → K → K) (front others : List ℕ) (from more : ℕ) (kept : K) → ((x : ℕ) → from ≤ x → x < from + more → (behind : List ℕ) (k : K) → f (front ++ x ∷ behind) k ≡ k) → done_upto f front others (from + more) kept ≡ done_upto f front others from kept
done_skip f front others from zero kept none = let e : from + 0 ≡ from = omega arith in ap (λ n. done_upto f front others n kept) e
done_skip f front others from (suc more) kept none =
    let before = done_skip f front others from more kept (λ x le lt. none x le (omega (arith, lt))) in
    let x = from + more in
    let e : from + suc more ≡ x + 1 = omega arith in
    ap (λ n. done_upto f front others n kept) e
    ∙ done_more f front others x kept
    ∙ done_none (λ (behind : List ℕ). f ((front ++ x ∷ []) ++ behind)) (λ behind k. ap (λ (ys : List ℕ). f ys k) (append_assoc front (x ∷ []) behind) ∙ none x (omega arith) (omega arith) behind k) (tuples others) (done_upto f front others x kept)
    ∙ before

pub done_to : {K : Type 0} (f : List ℕ → K → K) (front others : List ℕ) (from to : ℕ) (kept : K) → from ≤ to → ((x : ℕ) → from ≤ x → x < to → (behind : List ℕ) (k : K) → f (front ++ x ∷ behind) k ≡ k) → done_upto f front others to kept ≡ done_upto f front others from kept
done_to f front others from to kept le none =
    let g = gap from to le in
    ap (λ n. done_upto f front others n kept) g.1 ∙ done_skip f front others from g.0 kept (λ x ge lt. none x ge (omega (arith, lt, g.1)))

-- a turn: nothing from x on up to the next element, and then what is done behind that
pub done_turn : {K : Type 0} (f : List ℕ → K → K) (front others longer : List ℕ) (x next : ℕ) (old before now : K) → before ≡ done_upto f front others x old → x ≤ next → ((y : ℕ) → x ≤ y → y < next → (behind : List ℕ) (k : K) → f (front ++ y ∷ behind) k ≡ k)
    → longer ≡ front ++ next ∷ [] → now ≡ done_behind f longer others before → now ≡ done_upto f front others (next + 1) old
done_turn f front others longer x next old before now so_far le none is step =
    step ∙ ap (λ (ls : List ℕ). done_behind f ls others before) is ∙ ap (done_behind f (front ++ next ∷ []) others) (so_far ∙ sym (done_to f front others x next old le none)) ∙ sym (done_more f front others next old)

-- all elements
pub done_here : {K : Type 0} (f : List ℕ → K → K) (front sizes first others : List ℕ) (d : ℕ) (kept : K) → ((length sizes ≡ 0) → ⊥) → first ≡ take 1 sizes → others ≡ drop 1 sizes → done_behind f front sizes kept ≡ done_upto f front others (get_or first 0 d) kept
done_here f front [] first others d kept some is rest = absurd (some refl)
done_here f front (n ∷ sizes) first others d kept some is rest = rw (is, rest) refl

-- no size is left
pub done_end : {K : Type 0} (f : List ℕ → K → K) (front sizes : List ℕ) (kept : K) → sizes ≡ [] → f front kept ≡ done_behind f front sizes kept
done_end f front sizes kept e = rw e (ap (λ (ys : List ℕ). f ys kept) (sym (append-nil front)))

-- nothing is left from x on up to the size
pub done_rest : {K : Type 0} (f : List ℕ → K → K) (front sizes first others : List ℕ) (x next : ℕ) (old before : K) → ((length sizes ≡ 0) → ⊥) → first ≡ take 1 sizes → others ≡ drop 1 sizes → before ≡ done_upto f front others x old → x ≤ get_or first 0 0 → get_or first 0 0 ≤ next
    → ((y : ℕ) → x ≤ y → y < next → (behind : List ℕ) (k : K) → f (front ++ y ∷ behind) k ≡ k) → before ≡ done_behind f front sizes old
done_rest f front sizes first others x next old before some is rest so_far le past none =
    so_far ∙ sym (done_to f front others x (get_or first 0 0) old le (λ y ge lt. none y ge (omega (arith, lt, past)))) ∙ sym (done_here f front sizes first others 0 old some is rest)
