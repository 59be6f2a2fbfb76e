-- Parts of a text one after the other, and lists in brackets.
use Rattle.std.proofs.Common.{◌≡◌, ℕ, true, List, [], ◌∷◌, ◌++◌, refl, sym, ap, ◌∙◌, append_assoc}
use Rattle.std.specs.List.{AllByRecursion}
use Rattle.line_text.specs.declared.token.Token.{Token}
use Rattle.line_text.specs.declared.token.Token.TheVariants.{Word, Number, Mark, Arrow}
use Rattle.line_text.specs.Spelling.{Part, One, Gap, token_text, spell, tokens_in_parts, IsSpelt, begins_apart, is_apart, AreSpelt}
use Rattle.line_text.specs.Writing.{behind_text, listing_text}
use Rattle.line_text.proofs.Guards.{and_true}
use Rattle.line_text.proofs.Inverse.{behind_tokens, listing_tokens}

pub spell_append : (ps qs : List Part) → spell (ps ++ qs) ≡ spell ps ++ spell qs
spell_append [] qs = refl
spell_append (One t ∷ ps) qs = ap (λ (bs : List ℕ). token_text t ++ bs) (spell_append ps qs) ∙ sym (append_assoc (token_text t) (spell ps) (spell qs))
spell_append (Gap ∷ ps) qs = ap (λ (bs : List ℕ). 32 ∷ bs) (spell_append ps qs)

pub tokens_append : (ps qs : List Part) → tokens_in_parts (ps ++ qs) ≡ tokens_in_parts ps ++ tokens_in_parts qs
tokens_append [] qs = refl
tokens_append (One t ∷ ps) qs = ap (λ (ts : List Token). t ∷ ts) (tokens_append ps qs)
tokens_append (Gap ∷ ps) qs = tokens_append ps qs

begins_append : (ps qs : List Part) → begins_apart ps ≡ true → begins_apart qs ≡ true → begins_apart (ps ++ qs) ≡ true
begins_append [] qs e f = f
begins_append (One (Word w) ∷ ps) qs e f = absurd cc
begins_append (One (Number n) ∷ ps) qs e f = absurd cc
begins_append (One (Mark b) ∷ ps) qs e f = refl
begins_append (One Arrow ∷ ps) qs e f = refl
begins_append (Gap ∷ ps) qs e f = refl

-- what begins with no word may stand behind parts that stand apart
pub apart_append : (ps qs : List Part) → is_apart ps ≡ true → begins_apart qs ≡ true → is_apart qs ≡ true → is_apart (ps ++ qs) ≡ true
apart_append [] qs e f g = g
apart_append (One (Word w) ∷ ps) qs e f g =
    let h = and_true (begins_apart ps) (is_apart ps) e in
    rw (begins_append ps qs h.0 f) (apart_append ps qs h.1 f g)
apart_append (One (Number n) ∷ ps) qs e f g =
    let h = and_true (begins_apart ps) (is_apart ps) e in
    rw (begins_append ps qs h.0 f) (apart_append ps qs h.1 f g)
apart_append (One (Mark b) ∷ ps) qs e f g = apart_append ps qs e f g
apart_append (One Arrow ∷ ps) qs e f g = apart_append ps qs e f g
apart_append (Gap ∷ ps) qs e f g = apart_append ps qs e f g

-- where all tokens can be spelt, the parts can
pub spelt_parts : (ps : List Part) → AllByRecursion IsSpelt (tokens_in_parts ps) → AreSpelt ps
spelt_parts [] h = tt
spelt_parts (One t ∷ ps) h = (h.0, spelt_parts ps h.1)
spelt_parts (Gap ∷ ps) h = spelt_parts ps h

-- items behind the first one, and the bracket that closes
abbrev pub behind_parts : {A : Type 0} → (A → List Part) → List A → List Part
behind_parts part [] = One (Mark 41) ∷ []
behind_parts part (x ∷ xs) = One (Mark 44) ∷ (part x ++ behind_parts part xs)

-- a list in brackets
abbrev pub listing_parts : {A : Type 0} → (A → List Part) → List A → List Part
listing_parts part [] = One (Mark 40) ∷ One (Mark 41) ∷ []
listing_parts part (x ∷ xs) = One (Mark 40) ∷ (part x ++ behind_parts part xs)

behind_spelt : {A : Type 0} → (part : A → List Part) (text : A → List ℕ) → ((x : A) → spell (part x) ≡ text x) → (xs : List A) → spell (behind_parts part xs) ≡ behind_text text xs
behind_spelt part text same [] = refl
behind_spelt part text same (x ∷ xs) = ap (λ (bs : List ℕ). 44 ∷ bs) (spell_append (part x) (behind_parts part xs) ∙ ap (λ (bs : List ℕ). bs ++ spell (behind_parts part xs)) (same x) ∙ ap (λ (bs : List ℕ). text x ++ bs) (behind_spelt part text same xs))

pub listing_spelt : {A : Type 0} → (part : A → List Part) (text : A → List ℕ) → ((x : A) → spell (part x) ≡ text x) → (xs : List A) → spell (listing_parts part xs) ≡ listing_text text xs
listing_spelt part text same [] = refl
listing_spelt part text same (x ∷ xs) = ap (λ (bs : List ℕ). 40 ∷ bs) (spell_append (part x) (behind_parts part xs) ∙ ap (λ (bs : List ℕ). bs ++ spell (behind_parts part xs)) (same x) ∙ ap (λ (bs : List ℕ). text x ++ bs) (behind_spelt part text same xs))

behind_read : {A : Type 0} → (part : A → List Part) (toks : A → List Token) → ((x : A) → tokens_in_parts (part x) ≡ toks x) → (xs : List A) → tokens_in_parts (behind_parts part xs) ≡ behind_tokens toks xs
behind_read part toks same [] = refl
behind_read part toks same (x ∷ xs) = ap (λ (ts : List Token). Mark 44 ∷ ts) (tokens_append (part x) (behind_parts part xs) ∙ ap (λ (ts : List Token). ts ++ tokens_in_parts (behind_parts part xs)) (same x) ∙ ap (λ (ts : List Token). toks x ++ ts) (behind_read part toks same xs))

pub listing_read : {A : Type 0} → (part : A → List Part) (toks : A → List Token) → ((x : A) → tokens_in_parts (part x) ≡ toks x) → (xs : List A) → tokens_in_parts (listing_parts part xs) ≡ listing_tokens toks xs
listing_read part toks same [] = refl
listing_read part toks same (x ∷ xs) = ap (λ (ts : List Token). Mark 40 ∷ ts) (tokens_append (part x) (behind_parts part xs) ∙ ap (λ (ts : List Token). ts ++ tokens_in_parts (behind_parts part xs)) (same x) ∙ ap (λ (ts : List Token). toks x ++ ts) (behind_read part toks same xs))

behind_begins : {A : Type 0} → (part : A → List Part) (xs : List A) → begins_apart (behind_parts part xs) ≡ true
behind_begins part [] = refl
behind_begins part (x ∷ xs) = refl

behind_apart : {A : Type 0} → (part : A → List Part) → ((x : A) → is_apart (part x) ≡ true) → (xs : List A) → is_apart (behind_parts part xs) ≡ true
behind_apart part apart [] = refl
behind_apart part apart (x ∷ xs) = apart_append (part x) (behind_parts part xs) (apart x) (behind_begins part xs) (behind_apart part apart xs)

pub listing_apart : {A : Type 0} → (part : A → List Part) → ((x : A) → is_apart (part x) ≡ true) → (xs : List A) → is_apart (listing_parts part xs) ≡ true
listing_apart part apart [] = refl
listing_apart part apart (x ∷ xs) = apart_append (part x) (behind_parts part xs) (apart x) (behind_begins part xs) (behind_apart part apart xs)
