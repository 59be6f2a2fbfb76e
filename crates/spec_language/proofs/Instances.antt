-- Instances one after the other, and how many there are.
use Rattle.std.proofs.Common.{◌≡◌, ◌⊎◌, inl, inr, ℕ, zero, suc, ◌+◌, ◌*◌, ◌^◌, ◌<◌, ◌≤◌, Bool, true, false, ◌&&◌, ◌||◌, eqb, List, [], ◌∷◌, ◌++◌, map, length, get_or, take, drop, refl, sym, ap, ◌∙◌, arith, add-one, append_assoc, mul_assoc}
use Rattle.std.specs.List.{list_all, list_any, flat_map}
use Rattle.std.proofs.lemmas.List.Folds.{list_all-append, list_any-append}
use Rattle.std.specs.List.{AllByRecursion}
use Rattle.std.proofs.lemmas.List.{append-nil, drop_more}
use Rattle.std.proofs.lemmas.Nat.{mul-le}
use Rattle.std.proofs.lemmas.Bool.{eqb-true, eqb-false}
use Rattle.spec_model.specs.declared.spec.Sort.{Sort}
use Rattle.spec_model.specs.declared.clause.Clause.{Clause}
use Rattle.spec_model.specs.declared.clause.Literal.{Literal}
use Rattle.spec_model.specs.Truths.{Truths, Within, signed, signed_true, literal_true, instance_true}
use Rattle.spec_language.specs.AtStart.{size_at}
use Rattle.line_text.proofs.Guards.{and_true}
use Rattle.spec_model.specs.Universe.{below, tuples, tuple_count}

-- each tuple behind this element
abbrev pub behind : List (List ℕ) → ℕ → List (List ℕ)
behind ts x = map (λ xs. x ∷ xs) ts

flat_more : (g : ℕ → List (List ℕ)) (ns : List ℕ) (x : ℕ) → flat_map g (ns ++ x ∷ []) ≡ flat_map g ns ++ g x
flat_more g [] x = append-nil (g x)
flat_more g (n ∷ ns) x = ap (λ (ts : List (List ℕ)). g n ++ ts) (flat_more g ns x) ∙ sym (append_assoc (g n) (flat_map g ns) (g x))

all_more : (p : List ℕ → Bool) (g : ℕ → List (List ℕ)) (n : ℕ) → list_all p (flat_map g (below (suc n))) ≡ (list_all p (flat_map g (below n)) && list_all p (g n))
all_more p g n = ap (list_all p) (flat_more g (below n) n) ∙ list_all-append p (flat_map g (below n)) (g n)

-- the tuples behind an element, with the element moved to the front
all_moved : (p : List ℕ → Bool) (front : List ℕ) (x : ℕ) (ts : List (List ℕ)) → list_all (λ xs. p (front ++ xs)) (behind ts x) ≡ list_all (λ xs. p ((front ++ x ∷ []) ++ xs)) ts
all_moved p front x [] = refl
all_moved p front x (t ∷ ts) =
    let one : front ++ (x ∷ t) ≡ (front ++ x ∷ []) ++ t = sym (append_assoc front (x ∷ []) t) in
    rw (one, all_moved p front x ts) refl

-- one more element was looked at
pub more_hold : (p : List ℕ → Bool) (front longer : List ℕ) (x : ℕ) (ts : List (List ℕ)) → longer ≡ front ++ x ∷ []
    → list_all (λ xs. p (front ++ xs)) (flat_map (behind ts) (below x)) ≡ true → true ≡ list_all (λ xs. p (longer ++ xs)) ts → list_all (λ xs. p (front ++ xs)) (flat_map (behind ts) (below (x + 1))) ≡ true
more_hold p front longer x ts is before now =
    let moved = all_moved p front x ts in
    ap (λ (k : ℕ). list_all (λ xs. p (front ++ xs)) (flat_map (behind ts) (below k))) (add-one x) ∙ all_more (λ (xs : List ℕ). p (front ++ xs)) (behind ts) x ∙ rw (before, moved, ← is, ← now) refl

and_false : (a : Bool) → (a && false) ≡ false
and_false true = refl
and_false false = refl

near : (x n : ℕ) (t : Bool) → eqb x n ≡ t → x < suc n → (x ≡ n) ⊎ (x < n)
near x n true e lt = inl (eqb-true x n e)
near x n false e lt =
    let ne = eqb-false x n e in
    inr (omega arith)

-- one of the elements is refused
one_fails : (p : List ℕ → Bool) (g : ℕ → List (List ℕ)) (x n : ℕ) → x < n → list_all p (g x) ≡ false → list_all p (flat_map g (below n)) ≡ false
one_fails p g x zero lt bad = absurd (omega arith)
one_fails p g x (suc n) lt bad = elim (near x n (eqb x n) refl lt) [ inl same ↦ all_more p g n ∙ rw (← same, bad) (and_false (list_all p (flat_map g (below x)))) | inr less ↦ all_more p g n ∙ rw (one_fails p g x n less bad) refl ]

-- one of the elements holds, where all do
one_holds : (p : List ℕ → Bool) (g : ℕ → List (List ℕ)) (x n : ℕ) → x < n → list_all p (flat_map g (below n)) ≡ true → list_all p (g x) ≡ true
one_holds p g x zero lt all = absurd (omega arith)
one_holds p g x (suc n) lt all =
    let h = and_true (list_all p (flat_map g (below n))) (list_all p (g n)) (sym (all_more p g n) ∙ all) in
    elim (near x n (eqb x n) refl lt) [ inl same ↦ rw same h.1 | inr less ↦ one_holds p g x n less h.0 ]

-- what holds of all tuples holds of elements of the sorts
pub within_holds : (size : ℕ → ℕ) (p : List ℕ → Bool) (sorts xs : List ℕ) → Within size sorts xs → list_all p (tuples (map size sorts)) ≡ true → p xs ≡ true
within_holds size p [] [] w all = (and_true (p []) true all).0
within_holds size p [] (x ∷ xs) w all = absurd w
within_holds size p (s ∷ sorts) [] w all = absurd w
within_holds size p (s ∷ sorts) (x ∷ xs) w all =
    let ts = tuples (map size sorts) in
    let here : list_all p (behind ts x) ≡ true = one_holds p (behind ts) x (size s) w.0 all in
    within_holds size (λ (ys : List ℕ). p (x ∷ ys)) sorts xs w.1 (sym (all_moved p [] x ts) ∙ here)

any_signed : (s : Truths) (xs : List ℕ) (sign : Bool) (ls : List Literal) → list_any (signed_true s xs) (map (signed sign) ls) ≡ list_any (literal_true s xs sign) ls
any_signed s xs sign [] = refl
any_signed s xs sign (l ∷ ls) = ap (λ (b : Bool). literal_true s xs sign l || b) (any_signed s xs sign ls)

-- the premise and the conclusion of an instance, one after the other
sides : (s : Truths) (xs : List ℕ) (c : Clause) → instance_true s xs c ≡ (list_any (literal_true s xs false) c.premise || list_any (literal_true s xs true) c.conclusion)
sides s xs c =
    list_any-append (signed_true s xs) (map (signed false) c.premise) (map (signed true) c.conclusion)
    ∙ ap (λ (b : Bool). b || list_any (signed_true s xs) (map (signed true) c.conclusion)) (any_signed s xs false c.premise)
    ∙ ap (λ (b : Bool). list_any (literal_true s xs false) c.premise || b) (any_signed s xs true c.conclusion)

-- a literal of the premise is false
pub premise_fails : (s : Truths) (xs : List ℕ) (c : Clause) (premise : List Literal) → premise ≡ c.premise → list_any (literal_true s xs false) premise ≡ true → true ≡ instance_true s xs c
premise_fails s xs c premise is fails = sym (sides s xs c ∙ rw (← is, fails) refl)

-- else the conclusion decides
pub conclusion_decides : (s : Truths) (xs : List ℕ) (c : Clause) (premise conclusion : List Literal) → premise ≡ c.premise → conclusion ≡ c.conclusion → list_any (literal_true s xs false) premise ≡ false
    → list_any (literal_true s xs true) conclusion ≡ instance_true s xs c
conclusion_decides s xs c premise conclusion is are holds = sym (sides s xs c ∙ rw (← is, ← are, holds) refl)

pub some_fail : (p : List ℕ → Bool) (front longer : List ℕ) (x n : ℕ) (ts : List (List ℕ)) → longer ≡ front ++ x ∷ [] → x < n
    → false ≡ list_all (λ xs. p (longer ++ xs)) ts → false ≡ list_all (λ xs. p (front ++ xs)) (flat_map (behind ts) (below n))
some_fail p front longer x n ts is lt bad =
    sym (one_fails (λ (xs : List ℕ). p (front ++ xs)) (behind ts) x n lt (all_moved p front x ts ∙ rw (← is) (sym bad)))

-- no more than 1024 for each place
pub grown : (count size i : ℕ) → i < 4 → count ≤ 1024 ^ i → size ≤ 1024 → count * size ≤ 1024 ^ (i + 1)
grown count size zero lt small less = mul-le count size 1 1024 small less
grown count size (suc zero) lt small less = mul-le count size 1024 1024 small less
grown count size (suc (suc zero)) lt small less = mul-le count size 1048576 1024 small less
grown count size (suc (suc (suc zero))) lt small less = mul-le count size 1073741824 1024 small less
grown count size (suc (suc (suc (suc i)))) lt small less = absurd (omega arith)

-- at most four places
pub limited : (count i : ℕ) → i ≤ 4 → count ≤ 1024 ^ i → count ≤ 1099511627776
limited count zero le small = omega arith
limited count (suc zero) le small = omega arith
limited count (suc (suc zero)) le small = omega arith
limited count (suc (suc (suc zero))) le small = omega arith
limited count (suc (suc (suc (suc zero)))) le small = small
limited count (suc (suc (suc (suc (suc i))))) le small = absurd (omega arith)

-- each sort is small
pub size_small : (sorts : List Sort) (place : ℕ) → AllByRecursion (λ (s : Sort). s.size ≤ 1024) sorts → size_at sorts place ≤ 1024
size_small [] place all = omega arith
size_small (s ∷ sorts) zero all = all.0
size_small (s ∷ sorts) (suc place) all = size_small sorts place all.1

-- one more place was multiplied
pub counted : (sorts : List Sort) (places : List ℕ) (i count : ℕ) (total : ℕ) → i < length places
    → count * tuple_count (map (size_at sorts) (drop i places)) ≡ total → count * size_at sorts (get_or places i 0) * tuple_count (map (size_at sorts) (drop (i + 1) places)) ≡ total
counted sorts places i count total lt so_far =
    let split = drop_more places i 0 lt in
    mul_assoc count (size_at sorts (get_or places i 0)) (tuple_count (map (size_at sorts) (drop (i + 1) places))) ∙ (rw split at so_far)

-- the tuples over sizes, by the first one
pub cut_size : (sizes front back : List ℕ) → ((length sizes ≡ 0) → ⊥) → front ≡ take 1 sizes → back ≡ drop 1 sizes → tuples sizes ≡ flat_map (behind (tuples back)) (below (get_or front 0 0))
cut_size [] front back some f b = absurd (some refl)
cut_size (n ∷ ns) front back some f b = rw (f, b) refl
