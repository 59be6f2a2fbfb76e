-- A walk over tuples: what is listed of those that begin with some elements, element by element.
use Rattle.std.proofs.Common.{◌≡◌, ℕ, zero, suc, ◌+◌, ◌<◌, ◌≤◌, List, [], ◌∷◌, ◌++◌, map, length, get_or, take, drop, refl, sym, ap, ◌∙◌, add-one, append_assoc, arith}
use Rattle.std.specs.List.{flat_map}
use Rattle.std.proofs.lemmas.List.{append-nil}
use Rattle.std.proofs.lemmas.List.Concat.{flat_map-append}
use Rattle.std.proofs.lemmas.List.Folds.{flat_map-map}
use Rattle.spec_model.specs.Universe.{below, tuples}

-- what is listed of the tuples that begin so
abbrev pub listed_behind : {X : Type 0} → (List ℕ → List X) → List ℕ → List ℕ → List X
listed_behind f front sizes = flat_map (λ behind. f (front ++ behind)) (tuples sizes)

-- the tuples that begin with a number below x
abbrev pub listed_upto : {X : Type 0} → (List ℕ → List X) → List ℕ → List ℕ → ℕ → List X
listed_upto f front others x = flat_map (λ behind. f (front ++ behind)) (flat_map (λ y. map (λ xs. y ∷ xs) (tuples others)) (below x))

same_each : {X Y : Type 0} (f g : X → List Y) → ((x : X) → f x ≡ g x) → (xs : List X) → flat_map f xs ≡ flat_map g xs
same_each f g same [] = refl
same_each f g same (x ∷ xs) = rw (same x, same_each f g same xs) refl

none_each : {X Y : Type 0} (f : X → List Y) → ((x : X) → f x ≡ []) → (xs : List X) → flat_map f xs ≡ []
none_each f none [] = refl
none_each f none (x ∷ xs) = rw (none x, none_each f none xs) refl

-- one more element was walked
pub listed_more : {X : Type 0} (f : List ℕ → List X) (front others : List ℕ) (x : ℕ) → listed_upto f front others (x + 1) ≡ listed_upto f front others x ++ listed_behind f (front ++ x ∷ []) others
listed_more f front others x =
    let g : ℕ → List (List ℕ) = λ y. map (λ (xs : List ℕ). y ∷ xs) (tuples others) in
    ap (λ n. listed_upto f front others n) (add-one x)
    ∙ ap (flat_map (λ (behind : List ℕ). f (front ++ behind))) (flat_map-append g (below x) (x ∷ []))
    ∙ flat_map-append (λ (behind : List ℕ). f (front ++ behind)) (flat_map g (below x)) (g x ++ [])
    ∙ ap (λ zs. listed_upto f front others x ++ zs) (
    ap (flat_map (λ (behind : List ℕ). f (front ++ behind))) (append-nil (g x))
    ∙ flat_map-map (λ (behind : List ℕ). f (front ++ behind)) (λ (xs : List ℕ). x ∷ xs) (tuples others)
    ∙ same_each (λ (xs : List ℕ). f (front ++ x ∷ xs)) (λ (xs : List ℕ). f ((front ++ x ∷ []) ++ xs)) (λ xs. ap f (sym (append_assoc front (x ∷ []) xs))) (tuples others))

-- all elements were walked
pub listed_all : {X : Type 0} (f : List ℕ → List X) (front sizes first others : List ℕ) (d : ℕ) → ((length sizes ≡ 0) → ⊥) → first ≡ take 1 sizes → others ≡ drop 1 sizes → listed_behind f front sizes ≡ listed_upto f front others (get_or first 0 d)
listed_all f front [] first others d some is rest = absurd (some refl)
listed_all f front (n ∷ sizes) first others d some is rest = rw (is, rest) refl

-- no size is left
pub listed_end : {X : Type 0} (f : List ℕ → List X) (front sizes : List ℕ) → sizes ≡ [] → f front ≡ listed_behind f front sizes
listed_end f front sizes e = rw e (ap f (sym (append-nil front)) ∙ sym (append-nil (f (front ++ []))))

-- a turn of the walk: what is listed behind the element was appended, which may be nothing
pub listed_step : {X : Type 0} (f : List ℕ → List X) (front others longer : List ℕ) (x : ℕ) (old before now : List X) → before ≡ old ++ listed_upto f front others x → longer ≡ front ++ x ∷ [] → now ≡ before ++ listed_behind f longer others
    → now ≡ old ++ listed_upto f front others (x + 1)
listed_step f front others longer x old before now so_far is step =
    step ∙ ap (λ ys. ys ++ listed_behind f longer others) so_far ∙ ap (λ (ls : List ℕ). (old ++ listed_upto f front others x) ++ listed_behind f ls others) is
    ∙ append_assoc old (listed_upto f front others x) (listed_behind f (front ++ x ∷ []) others) ∙ ap (λ ys. old ++ ys) (sym (listed_more f front others x))

-- the difference of two numbers
pub gap : (a b : ℕ) → a ≤ b → (m : ℕ) × (b ≡ a + m)
gap zero b le = (b, omega arith)
gap (suc a) zero le = absurd (omega (arith, le))
gap (suc a) (suc b) le = let g = gap a b (omega (arith, le)) in (g.0, omega (arith, g.1))

-- elements behind which nothing is listed
listed_over : {X : Type 0} (f : List ℕ → List X) (front others : List ℕ) (from more : ℕ) → ((x : ℕ) → from ≤ x → x < from + more → (behind : List ℕ) → f (front ++ x ∷ behind) ≡ []) → listed_upto f front others (from + more) ≡ listed_upto f front others from
listed_over f front others from zero none = let e : from + 0 ≡ from = omega arith in ap (λ n. listed_upto f front others n) e
listed_over f front others from (suc more) none =
    let before = listed_over f front others from more (λ x le lt. none x le (omega (arith, lt))) in
    let x = from + more in
    let e : from + suc more ≡ x + 1 = omega arith in
    ap (λ n. listed_upto f front others n) e ∙ listed_more f front others x
    ∙ ap (λ ls. listed_upto f front others x ++ ls) (none_each (λ (behind : List ℕ). f ((front ++ x ∷ []) ++ behind)) (λ behind. ap f (append_assoc front (x ∷ []) behind) ∙ none x (omega arith) (omega arith) behind) (tuples others))
    ∙ append-nil (listed_upto f front others x) ∙ before

listed_to : {X : Type 0} (f : List ℕ → List X) (front others : List ℕ) (from to : ℕ) → from ≤ to → ((x : ℕ) → from ≤ x → x < to → (behind : List ℕ) → f (front ++ x ∷ behind) ≡ []) → listed_upto f front others to ≡ listed_upto f front others from
listed_to f front others from to le none =
    let g = gap from to le in
    ap (λ n. listed_upto f front others n) g.1 ∙ listed_over f front others from g.0 (λ x ge lt. none x ge (omega (arith, lt, g.1)))

-- a turn of the walk: nothing from x on up to the next element, and then what is listed behind that
pub listed_turn : {X : Type 0} (f : List ℕ → List X) (front others longer : List ℕ) (x next : ℕ) (old before now : List X) → before ≡ old ++ listed_upto f front others x → x ≤ next → ((y : ℕ) → x ≤ y → y < next → (behind : List ℕ) → f (front ++ y ∷ behind) ≡ [])
    → longer ≡ front ++ next ∷ [] → now ≡ before ++ listed_behind f longer others → now ≡ old ++ listed_upto f front others (next + 1)
listed_turn f front others longer x next old before now so_far le none is step =
    listed_step f front others longer next old before now (so_far ∙ ap (λ ys. old ++ ys) (sym (listed_to f front others x next le none))) is step

-- nothing is left from x on up to the size
pub listed_rest : {X : Type 0} (f : List ℕ → List X) (front sizes first others : List ℕ) (x next : ℕ) (old before : List X) → ((length sizes ≡ 0) → ⊥) → first ≡ take 1 sizes → others ≡ drop 1 sizes → before ≡ old ++ listed_upto f front others x → x ≤ get_or first 0 0 → get_or first 0 0 ≤ next
    → ((y : ℕ) → x ≤ y → y < next → (behind : List ℕ) → f (front ++ y ∷ behind) ≡ []) → before ≡ old ++ listed_behind f front sizes
listed_rest f front sizes first others x next old before some is rest so_far le past none =
    so_far ∙ ap (λ ys. old ++ ys) (sym (listed_to f front others x (get_or first 0 0) le (λ y ge lt. none y ge (omega (arith, lt, past)))) ∙ sym (listed_all f front sizes first others 0 some is rest))
