-- What terms touch, and the first elements of what they touch.
use Rattle.std.proofs.Common.{◌≡◌, ℕ, zero, suc, ◌<◌, Bool, false, ◌&&◌, leb, List, [], ◌∷◌, drop, length, get_or, refl, sym, ap, ◌∙◌, arith, None}
use Rattle.std.specs.List.{slice_get}
use Rattle.std.specs.Option.{option_map, option_map_or}
use Rattle.std.specs.Str.{bytes_eq}
use Rattle.std.proofs.lemmas.Option.{slice_get-map}
use Rattle.std.proofs.Math.Dec.{leb-suc-zero}
use Rattle.std.proofs.Math.Bool.{and-false}
use Rattle.ind_base.specs.declared.span.Span.{Span}
use Rattle.spec_model.specs.declared.operation.Term.{Term}
use Rattle.spec_model.specs.Truths.{terms_touch, span_has, no_span}
use Rattle.spec_model.specs.Changes.{elements_at}
use Rattle.effect_model.specs.Touching.{terms_begin, begins_with}

-- nothing lies in an argument that isn't there
pub none_has : (args : List Span) (i x : ℕ) → None ≡ slice_get args i → false ≡ span_has (get_or args i no_span) x
none_has args i x none = no_x x ∙ ap (λ (s : Span). span_has s x) (missing args i none)
  where
    missing : (args : List Span) (i : ℕ) → None ≡ slice_get args i → no_span ≡ get_or args i no_span
    missing [] i e = refl
    missing (a ∷ args) zero e = absurd cc
    missing (a ∷ args) (suc i) e = missing args i e

    no_x : (x : ℕ) → false ≡ span_has no_span x
    no_x zero = refl
    no_x (suc x) = sym (and-false (leb 1 (suc x))) ∙ ap (λ (b : Bool). leb 1 (suc x) && b) (sym (leb-suc-zero x))

-- too few elements for the terms, or too few terms for the elements
pub short_elements : (has : ℕ → ℕ → Bool) (terms : List Term) (i : ℕ) (xs : List ℕ) → i < length terms → length xs < 1 → false ≡ terms_touch has (drop i terms) xs
short_elements has [] i xs lt few = absurd (omega arith)
short_elements has (t ∷ terms) zero [] lt few = refl
short_elements has (t ∷ terms) zero (x ∷ xs) lt few = absurd (omega arith)
short_elements has (t ∷ terms) (suc i) xs lt few = short_elements has terms i xs (omega arith) few

-- too few elements for the parameters
pub short_places : (args : List Span) (places : List ℕ) (i : ℕ) (xs : List ℕ) → i < length places → length xs < 1 → false ≡ bytes_eq (elements_at args (drop i places)) xs
short_places args [] i xs lt few = absurd (omega arith)
short_places args (p ∷ places) zero [] lt few = refl
short_places args (p ∷ places) zero (x ∷ xs) lt few = absurd (omega arith)
short_places args (p ∷ places) (suc i) xs lt few = short_places args places i xs (omega arith) few

pub short_terms : (has : ℕ → ℕ → Bool) (terms : List Term) (front : List ℕ) (i : ℕ) → i < length front → length terms < 1 → false ≡ terms_begin has terms (drop i front)
short_terms has terms [] i lt few = absurd (omega arith)
short_terms has [] (x ∷ front) zero lt few = refl
short_terms has (t ∷ terms) (x ∷ front) zero lt few = absurd (omega arith)
short_terms has terms (x ∷ front) (suc i) lt few = short_terms has terms front i (omega arith) few

pub short_front : (args : List Span) (params front : List ℕ) (i : ℕ) → i < length front → length params < 1 → false ≡ begins_with (elements_at args params) (drop i front)
short_front args params [] i lt few = absurd (omega arith)
short_front args [] (x ∷ front) zero lt few = refl
short_front args (p ∷ params) (x ∷ front) zero lt few = absurd (omega arith)
short_front args params (x ∷ front) (suc i) lt few = short_front args params front i (omega arith) few

-- the element of the parameter at a place
pub element_of : (args : List Span) (params : List ℕ) (k : ℕ) → slice_get (elements_at args params) k ≡ option_map (λ i. option_map_or (λ (s : Span). s.lo) (slice_get args i) 0) (slice_get params k)
element_of args params k = slice_get-map _ params k
