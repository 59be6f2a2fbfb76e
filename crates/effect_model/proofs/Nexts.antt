-- One more element behind those that lines begin with.
use Rattle.std.proofs.Common.{◌≡◌, ℕ, ◌+◌, ◌<◌, ◌≤◌, Bool, true, false, ◌&&◌, ◌||◌, List, [], ◌∷◌, ◌++◌, take, length, get_or, refl, sym, ap, ◌∙◌, Some, None}
use Rattle.std.specs.List.{slice_get, list_any}
use Rattle.std.specs.Prelude.{◌==◌}
use Rattle.std.proofs.lemmas.List.{take_all}
use Rattle.std.proofs.lemmas.List.Folds.{list_any_more}
use Rattle.std.proofs.lemmas.Option.{same_Some}
use Rattle.std.proofs.lemmas.Bool.{ne_eqb}
use Rattle.spec_model.specs.declared.operation.Term.{Term}
use Rattle.spec_model.specs.Truths.{term_has}
use Rattle.effect_model.specs.Touching.{terms_begin, begins_with}

-- tests that fail
no_first : (a b : Bool) → a ≡ false → (a && b) ≡ false
no_first true b e = absurd cc
no_first false b e = refl

no_second : (a b : Bool) → b ≡ false → (a && b) ≡ false
no_second true b e = e
no_second false b e = refl

no_more : (a b c : Bool) → (b ≡ false → c ≡ false) → (a && b) ≡ false → (a && c) ≡ false
no_more true b c f e = f e
no_more false b c f e = refl

-- terms that don't begin so don't begin with more
pub terms_short : (has : ℕ → ℕ → Bool) (terms : List Term) (front xs : List ℕ) → terms_begin has terms front ≡ false → terms_begin has terms (front ++ xs) ≡ false
terms_short has terms [] xs e = absurd cc
terms_short has [] (y ∷ front) xs e = refl
terms_short has (t ∷ terms) (y ∷ front) xs e = no_more (term_has has t y) (terms_begin has terms front) (terms_begin has terms (front ++ xs)) (terms_short has terms front xs) e

-- no term is left
pub terms_end : (has : ℕ → ℕ → Bool) (terms : List Term) (front : List ℕ) (x : ℕ) → slice_get terms (length front) ≡ None → terms_begin has terms (front ++ x ∷ []) ≡ false
terms_end has [] [] x e = refl
terms_end has (t ∷ terms) [] x e = absurd cc
terms_end has [] (y ∷ front) x e = refl
terms_end has (t ∷ terms) (y ∷ front) x e = no_second (term_has has t y) _ (terms_end has terms front x e)

-- the next term doesn't have the element
pub terms_lack : (has : ℕ → ℕ → Bool) (terms : List Term) (front : List ℕ) (x : ℕ) (t : Term) → slice_get terms (length front) ≡ Some t → term_has has t x ≡ false → terms_begin has terms (front ++ x ∷ []) ≡ false
terms_lack has [] [] x t is e = absurd cc
terms_lack has (u ∷ terms) [] x t is e = no_first (term_has has u x) true (ap (λ (v : Term). term_has has v x) (same_Some u t is) ∙ e)
terms_lack has [] (y ∷ front) x t is e = refl
terms_lack has (u ∷ terms) (y ∷ front) x t is e = no_second (term_has has u y) _ (terms_lack has terms front x t is e)

-- the same of numbers
pub numbers_short : (numbers front xs : List ℕ) → begins_with numbers front ≡ false → begins_with numbers (front ++ xs) ≡ false
numbers_short numbers [] xs e = absurd cc
numbers_short [] (y ∷ front) xs e = refl
numbers_short (n ∷ numbers) (y ∷ front) xs e = no_more (n == y) (begins_with numbers front) (begins_with numbers (front ++ xs)) (numbers_short numbers front xs) e

pub numbers_end : (numbers front : List ℕ) (x : ℕ) → slice_get numbers (length front) ≡ None → begins_with numbers (front ++ x ∷ []) ≡ false
numbers_end [] [] x e = refl
numbers_end (n ∷ numbers) [] x e = absurd cc
numbers_end [] (y ∷ front) x e = refl
numbers_end (n ∷ numbers) (y ∷ front) x e = no_second (n == y) _ (numbers_end numbers front x e)

pub numbers_lack : (numbers front : List ℕ) (x m : ℕ) → slice_get numbers (length front) ≡ Some m → (m ≡ x → ⊥) → begins_with numbers (front ++ x ∷ []) ≡ false
numbers_lack [] [] x m is other = absurd cc
numbers_lack (n ∷ numbers) [] x m is other = no_first (n == x) true (ne_eqb n x (λ same. other (sym (same_Some n m is) ∙ same)))
numbers_lack [] (y ∷ front) x m is other = refl
numbers_lack (n ∷ numbers) (y ∷ front) x m is other = no_second (n == y) _ (numbers_lack numbers front x m is other)

-- one more line does nothing
pub none_more : {X : Type 0} (f : X → Bool) (xs : List X) (k : ℕ) (d : X) → k < length xs → d ≡ get_or xs k d → list_any f (take k xs) ≡ false → f d ≡ false → list_any f (take (k + 1) xs) ≡ false
none_more f xs k d lt is before here = list_any_more f xs k d lt ∙ both _ _ before (ap f (sym is) ∙ here)
  where
    both : (a b : Bool) → a ≡ false → b ≡ false → (a || b) ≡ false
    both true b e g = absurd cc
    both false b e g = g

pub none_all : {X : Type 0} (f : X → Bool) (xs : List X) (k : ℕ) → length xs ≤ k → list_any f (take k xs) ≡ false → list_any f xs ≡ false
none_all f xs k past none = ap (list_any f) (sym (take_all k xs past)) ∙ none
