-- A tuple's place is found from the first number on, and a tuple from its place.
use Rattle.std.proofs.Common.{◌≡◌, ℕ, zero, suc, ◌+◌, ◌*◌, ◌/◌, ◌%◌, ◌<◌, ◌≤◌, List, [], ◌∷◌, ◌++◌, length, get_or, drop, refl, sym, ap, ◌∙◌, subst, arith, append_assoc, add-mul, mul_assoc}
use Rattle.std.specs.List.{AllByRecursion}
use Rattle.std.proofs.Math.Nat.{mul-div_cancel_left}
use Rattle.std.proofs.lemmas.List.{drop_more}
use Rattle.std.proofs.lemmas.Nat.{mul-le, mod_below}
use Rattle.spec_model.specs.declared.spec.Spec.{Spec}
use Rattle.spec_model.specs.Fits.{SortFits}
use Rattle.spec_model.specs.Truths.{Within, size_of}
use Rattle.spec_model.specs.Universe.{tuple_count, sizes_of}
use Rattle.effect_model.specs.Tuples.{SortsKnown, rank, tuple_at}
use Rattle.effect_model.proofs.Sizes.{size_some, count_within, all_at, factor_small, within_length}
use Rattle.effect_model.proofs.Tuples.{some_count, Below}

-- the place so far, before these sizes and elements: what is left gives the whole place, and it stays within the count
pub record IsPlacing (total count place : ℕ) (sizes xs : List ℕ) : Type 0 where
  pub gives : place * tuple_count sizes + rank sizes xs ≡ total
  pub room : (place + 1) * tuple_count sizes ≤ count
  pub within : Below sizes xs

horner : (p s x w r : ℕ) → (p * s + x) * w + r ≡ p * (s * w) + (x * w + r)
horner p s x w r =
    let split : (p * s + x) * w ≡ (p * s) * w + x * w = add-mul (p * s) x w in
    let turned : (p * s) * w ≡ p * (s * w) = mul_assoc p s w in
    omega arith

placing_cons : (total count place size x : ℕ) (sizes xs : List ℕ) → IsPlacing total count place (size ∷ sizes) (x ∷ xs) → IsPlacing total count (place * size + x) sizes xs
placing_cons total count place size x sizes xs p =
    let w = tuple_count sizes in
    let lt : x < size = p.within.0 in
    let next : (place + 1) * size ≡ place * size + size = add-mul place 1 size ∙ omega arith in
    let more : (place * size + x + 1) * w ≤ ((place + 1) * size) * w = mul-le (place * size + x + 1) w ((place + 1) * size) w (omega arith) (omega arith) in
    let whole : (place + 1) * (size * w) ≤ count = p.room in
    record {
      gives = horner place size x w (rank sizes xs) ∙ p.gives;
      room = omega (arith, mul_assoc (place + 1) size w);
      within = p.within.1;
    }

-- one more number was taken
pub placing_more : (total count place i d e : ℕ) (sizes xs : List ℕ) → i < length sizes → i < length xs → IsPlacing total count place (drop i sizes) (drop i xs)
    → IsPlacing total count (place * get_or sizes i d + get_or xs i e) (drop (i + 1) sizes) (drop (i + 1) xs)
placing_more total count place i d e sizes xs lt lx p =
    placing_cons total count place (get_or sizes i d) (get_or xs i e) (drop (i + 1) sizes) (drop (i + 1) xs)
    (subst (λ (ss : List ℕ). IsPlacing total count place ss (get_or xs i e ∷ drop (i + 1) xs)) (drop_more sizes i d lt) (subst (λ (ys : List ℕ). IsPlacing total count place (drop i sizes) ys) (drop_more xs i e lx) p))

size_at : (spec : Spec) (i d : ℕ) (sorts : List ℕ) → i < length sorts → get_or (sizes_of spec sorts) i 0 ≡ size_of spec (get_or sorts i d)
size_at spec i d [] lt = absurd (omega arith)
size_at spec zero d (s ∷ sorts) lt = refl
size_at spec (suc i) d (s ∷ sorts) lt = size_at spec i d sorts (omega arith)

sizes_long : (spec : Spec) (sorts : List ℕ) → length (sizes_of spec sorts) ≡ length sorts
sizes_long spec [] = refl
sizes_long spec (s ∷ sorts) = ap suc (sizes_long spec sorts)

-- elements within the sizes of sorts are as many as these
pub as_many : (spec : Spec) (i : ℕ) (sorts xs : List ℕ) → Within (λ s. s) (sizes_of spec sorts) xs → i < length sorts → i < length xs
as_many spec i sorts xs w lt = omega (arith, within_length (λ s. s) (sizes_of spec sorts) xs w, sizes_long spec sorts, lt)

-- the same over sorts
pub placing_over : (spec : Spec) (total count place size i d e : ℕ) (sorts xs : List ℕ) → i < length sorts → i < length xs → size ≡ size_of spec (get_or sorts i d) → IsPlacing total count place (drop i (sizes_of spec sorts)) (drop i xs)
    → IsPlacing total count (place * size + get_or xs i e) (drop (i + 1) (sizes_of spec sorts)) (drop (i + 1) xs)
placing_over spec total count place size i d e sorts xs lt lx is p =
    subst (λ (n : ℕ). IsPlacing total count (place * n + get_or xs i e) (drop (i + 1) (sizes_of spec sorts)) (drop (i + 1) xs)) (size_at spec i d sorts lt ∙ sym is)
    (placing_more total count place i 0 e (sizes_of spec sorts) xs (omega (arith, lt, sizes_long spec sorts)) lx p)

-- the place so far is below the count
pub placing_small : (total count place : ℕ) (sizes xs : List ℕ) → IsPlacing total count place sizes xs → place < count
placing_small total count place sizes xs p =
    let le = factor_small (place + 1) (tuple_count sizes) (count_within sizes xs p.within) in
    omega (arith, p.room, le)

-- the numbers so far, with those that are still to come, are the tuple
pub record IsTaking (spec : Spec) (whole : List ℕ) (behind left : ℕ) (args : List ℕ) (sorts : List ℕ) : Type 0 where
  pub gives : args ++ tuple_at (sizes_of spec sorts) left ≡ whole
  pub behind_is : behind ≡ tuple_count (sizes_of spec sorts)
  pub within : left < behind

taking_cons : (spec : Spec) (whole : List ℕ) (behind left s next : ℕ) (args sorts : List ℕ) → 1 ≤ size_of spec s → next ≡ behind / size_of spec s
    → IsTaking spec whole behind left args (s ∷ sorts) → IsTaking spec whole next (left % next) (args ++ left / next ∷ []) sorts
taking_cons spec whole behind left s next args sorts some is t =
    let w = tuple_count (sizes_of spec sorts) in
    let count : next ≡ w = is ∙ ap (λ n. n / size_of spec s) t.behind_is ∙ mul-div_cancel_left w {n = size_of spec s} (omega arith) in
    let P : ℕ → Type 0 = λ n. IsTaking spec whole n (left % n) (args ++ left / n ∷ []) sorts in
    subst P (sym count) (record {
      gives = append_assoc args (left / w ∷ []) (tuple_at (sizes_of spec sorts) (left % w)) ∙ t.gives;
      behind_is = refl;
      within = mod_below left w (some_count (size_of spec s) w left (omega (arith, t.within, t.behind_is)));
    })

-- one more number was found
pub taking_more : (spec : Spec) (whole : List ℕ) (behind left i d next : ℕ) (args sorts : List ℕ) → AllByRecursion SortFits spec.sorts → SortsKnown spec sorts → i < length sorts → next ≡ behind / size_of spec (get_or sorts i d)
    → IsTaking spec whole behind left args (drop i sorts) → IsTaking spec whole next (left % next) (args ++ left / next ∷ []) (drop (i + 1) sorts)
taking_more spec whole behind left i d next args sorts sizes known lt is t =
    taking_cons spec whole behind left (get_or sorts i d) next args (drop (i + 1) sorts) (size_some spec (get_or sorts i d) sizes (all_at (λ s. s < length spec.sorts) sorts i d known lt)) is
    (subst (IsTaking spec whole behind left args) (drop_more sorts i d lt) t)
