-- Hints and steps, one after the other.
use Rattle.std.proofs.Common.{◌≡◌, ℕ, zero, suc, ◌+◌, ◌-◌, ◌<◌, ◌≤◌, Bool, true, false, ◌||◌, ◌&&◌, not, cond, nat_eq, eqb, List, [], ◌∷◌, ◌++◌, length, get_or, take, drop, refl, sym, ap, append_assoc, take-suc, ◌∙◌, arith}
use Rattle.std.specs.Prelude.{slice_get, Some, None, Option}
use Rattle.std.specs.List.{list_any}
use mathlib.Core.Bool.{beq}
use Rattle.std.proofs.lemmas.Bool.{ne_eqb}
use Rattle.certificate_check.specs.Checks.{first_wrong}
use Rattle.certificate_check.specs.Turns.{after, rest_of, steps_lits, turn_at, turn_of}
use Rattle.certificate_check.specs.declared.steps.Turn.TheVariants.{Ends, Goes}
use Rattle.ground_clauses.proofs.Reaches.{at_place}
use Rattle.ground_clauses.specs.Derivations.{ends_empty, ends_false, hint_goes, is_nil, is_right, makes_true, opposite_num, propagates, repeats, same_num, undecided}
use Rattle.ground_clauses.specs.declared.clauses.Lit.{Lit}
use Rattle.ground_clauses.specs.declared.clauses.Step.{Step}

pub one_hint : (clauses : List (List Lit)) (left : List ℕ) (d : ℕ) (falses : List Lit) → 0 < length left
    → propagates clauses left falses ≡ after (propagates clauses (drop 1 left)) falses (turn_of (nat_eq (length (drop 1 left)) 0) falses (slice_get clauses (get_or left 0 d)))
one_hint clauses [] d falses lt = absurd (omega arith)
one_hint clauses (h ∷ []) d falses lt = last_hint (slice_get clauses h)
  where
    last_rest : (xs : List Lit) → is_nil xs ≡ after (propagates clauses []) falses (turn_at true falses (rest_of xs))
    last_rest [] = refl
    last_rest (x ∷ []) = refl
    last_rest (x ∷ (y ∷ more)) = refl

    last_hint : (o : Option (List Lit)) → ends_false falses o ≡ after (propagates clauses []) falses (turn_of true falses o)
    last_hint None = refl
    last_hint (Some c) = last_rest (undecided falses c)
one_hint clauses (h ∷ (k ∷ hints)) d falses lt =
    next_hint (slice_get clauses h) (propagates clauses (k ∷ hints))
    ∙ ap (λ b. after (propagates clauses (k ∷ hints)) falses (turn_of b falses (slice_get clauses h))) (sym (ne_eqb (length (k ∷ hints)) 0 (λ e. omega arith)))
  where
    by_sign : (b r : Bool) (x : Lit) (go : List Lit → Bool) → r ≡ go (falses ++ opposite_num x ∷ []) → (not b && r) ≡ after go falses (cond (false || b) (Ends false) (Goes (opposite_num x)))
    by_sign true r x go is = refl
    by_sign false r x go is = is

    next_rest : (xs : List Lit) (go : List Lit → Bool) → makes_true go falses xs ≡ after go falses (turn_at false falses (rest_of xs))
    next_rest [] go = refl
    next_rest (x ∷ []) go = by_sign (list_any (same_num (opposite_num x)) falses) (go (falses ++ opposite_num x ∷ [])) x go refl
    next_rest (x ∷ (y ∷ more)) go = refl

    next_hint : (o : Option (List Lit)) (go : List Lit → Bool) → hint_goes go falses o ≡ after go falses (turn_of false falses o)
    next_hint None go = refl
    next_hint (Some c) go = next_rest (undecided falses c) go

pub repeats_step : (lits : List Lit) (d : Lit) → 0 < length lits → repeats lits ≡ (list_any (λ y. eqb (get_or lits 0 d).var y.var) (drop 1 lits) || repeats (drop 1 lits))
repeats_step [] d lt = absurd (omega arith)
repeats_step (x ∷ xs) d lt = refl

pub ends_none : (steps : List Step) → length steps ≡ 0 → ends_empty steps ≡ false
ends_none [] e = refl
ends_none (s ∷ steps) e = absurd (omega (arith, e))

pub ends_last : (steps : List Step) (d : Step) → 0 < length steps → ends_empty steps ≡ is_nil (get_or steps (length steps - 1) d).lits
ends_last [] d lt = absurd (omega arith)
ends_last (s ∷ []) d lt = refl
ends_last (s ∷ (t ∷ steps)) d lt =
    ends_last (t ∷ steps) d (omega arith) ∙ ap (λ i. is_nil (get_or (s ∷ (t ∷ steps)) i d).lits) (let z : suc (length (t ∷ steps) - 1) ≡ length (s ∷ (t ∷ steps)) - 1 = omega arith in z)

-- ---- the row of clauses and steps

pub row_front : (clauses : List (List Lit)) (steps : List Step) (h : ℕ) (d : List Lit) → h < length clauses → slice_get (clauses ++ steps_lits steps) h ≡ Some (get_or clauses h d)
row_front [] steps h d lt = absurd (omega arith)
row_front (c ∷ clauses) steps zero d lt = refl
row_front (c ∷ clauses) steps (suc h) d lt = row_front clauses steps h d (omega arith)

steps_get : (steps : List Step) (h : ℕ) (d : Step) → h < length steps → slice_get (steps_lits steps) h ≡ Some ((get_or steps h d).lits)
steps_get [] h d lt = absurd (omega arith)
steps_get (s ∷ steps) zero d lt = refl
steps_get (s ∷ steps) (suc h) d lt = steps_get steps h d (omega arith)

steps_end : (steps : List Step) (h : ℕ) → length steps ≤ h → slice_get (steps_lits steps) h ≡ None
steps_end [] h le = refl
steps_end (s ∷ steps) zero le = absurd (omega arith)
steps_end (s ∷ steps) (suc h) le = steps_end steps h (omega arith)

past_row : (clauses : List (List Lit)) (steps : List Step) (h : ℕ) → length clauses ≤ h → slice_get (clauses ++ steps_lits steps) h ≡ slice_get (steps_lits steps) (h - length clauses)
past_row [] steps h le = ap (slice_get (steps_lits steps)) (let z : h ≡ h - 0 = omega arith in z)
past_row (c ∷ clauses) steps zero le = absurd (omega arith)
past_row (c ∷ clauses) steps (suc h) le = past_row clauses steps h (omega arith) ∙ ap (slice_get (steps_lits steps)) (let z : h - length clauses ≡ suc h - length (c ∷ clauses) = omega arith in z)

pub row_step : (clauses : List (List Lit)) (steps : List Step) (h : ℕ) (d : Step) → length clauses ≤ h → h - length clauses < length steps
    → slice_get (clauses ++ steps_lits steps) h ≡ Some ((get_or steps (h - length clauses) d).lits)
row_step clauses steps h d le lt = past_row clauses steps h le ∙ steps_get steps (h - length clauses) d lt

pub row_end : (clauses : List (List Lit)) (steps : List Step) (h : ℕ) → length clauses ≤ h → length steps ≤ h - length clauses → slice_get (clauses ++ steps_lits steps) h ≡ None
row_end clauses steps h le ge = past_row clauses steps h le ∙ steps_end steps (h - length clauses) ge

pub nil_length : (xs : List Lit) → is_nil xs ≡ eqb (length xs) 0
nil_length [] = refl
nil_length (x ∷ xs) = sym (ne_eqb (length (x ∷ xs)) 0 (λ e. omega (arith, e)))

steps_push : (steps : List Step) (s : Step) → steps_lits (steps ++ s ∷ []) ≡ steps_lits steps ++ s.lits ∷ []
steps_push [] s = refl
steps_push (t ∷ steps) s = ap (λ xs. t.lits ∷ xs) (steps_push steps s)

-- the first wrong step, from a place on
abbrev pub wrong_from : List (List Lit) → List Step → ℕ → Option ℕ
wrong_from clauses steps i = first_wrong i (clauses ++ steps_lits (take i steps)) (drop i steps)

pub first_wrong_step : (clauses : List (List Lit)) (steps : List Step) (i : ℕ) (d : Step) → i < length steps
    → wrong_from clauses steps i ≡ cond (is_right (clauses ++ steps_lits (take i steps)) (get_or steps i d)) (wrong_from clauses steps (i + 1)) (Some i)
first_wrong_step clauses steps i d lt =
    at_place (λ ss. first_wrong i (clauses ++ steps_lits (take i steps)) ss ≡ cond (is_right (clauses ++ steps_lits (take i steps)) (get_or steps i d)) (wrong_from clauses steps (i + 1)) (Some i)) steps i d lt
    (ap (λ w. cond (is_right (clauses ++ steps_lits (take i steps)) (get_or steps i d)) w (Some i))
    (ap (λ cs. first_wrong (suc i) cs (drop (i + 1) steps)) row ∙ ap (λ j. first_wrong j (clauses ++ steps_lits (take (i + 1) steps)) (drop (i + 1) steps)) (let z : suc i ≡ i + 1 = omega arith in z)))
  where
    row : (clauses ++ steps_lits (take i steps)) ++ (get_or steps i d).lits ∷ [] ≡ clauses ++ steps_lits (take (i + 1) steps)
    row =
        append_assoc clauses (steps_lits (take i steps)) ((get_or steps i d).lits ∷ [])
        ∙ ap (λ xs. clauses ++ xs) (sym (steps_push (take i steps) (get_or steps i d)) ∙ ap steps_lits (sym (take-suc steps i d lt) ∙ ap (λ k. take k steps) (let z : suc i ≡ i + 1 = omega arith in z)))

-- a right step, and the steps from the next place on
pub goes_on : (clauses : List (List Lit)) (steps : List Step) (i : ℕ) (earlier : List Step) (step : Step) (yes' : Bool) → i < length steps
    → earlier ≡ take i steps → step ≡ get_or steps i step → yes' ≡ is_right (clauses ++ steps_lits earlier) step → yes' ≡ true → wrong_from clauses steps i ≡ wrong_from clauses steps (i + 1)
goes_on clauses steps i earlier step yes' lt front is right yes_is =
    first_wrong_step clauses steps i step lt
    ∙ ap (λ b. cond b (wrong_from clauses steps (i + 1)) (Some i))
    (ap (λ es. is_right (clauses ++ steps_lits es) (get_or steps i step)) (sym front) ∙ ap (λ s. is_right (clauses ++ steps_lits earlier) s) (sym is) ∙ sym right ∙ yes_is)

-- equal signs
pub same_signs : (x y : Bool) → beq x y ≡ cond x y (not y)
same_signs true true = refl
same_signs true false = refl
same_signs false true = refl
same_signs false false = refl
