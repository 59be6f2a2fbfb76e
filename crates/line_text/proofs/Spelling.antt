-- What is spelt is read.
use Rattle.std.proofs.Common.{◌≡◌, ℕ, ◌^◌, ◌<◌, Bool, true, false, cond, ◌&&◌, ◌||◌, eqb, ◌⊎◌, inl, inr, List, [], ◌∷◌, ◌++◌, length, refl, ap, ◌∙◌, arith, rules}
use Rattle.std.specs.Prelude.{Some, None, decimal}
use Rattle.std.specs.Str.{all_ascii_digits}
use Rattle.std.proofs.lemmas.Bool.{eqb-true}
use Rattle.std.proofs.lemmas.Fmt.{digits_decimal, decimal_nonempty}
use Rattle.ind_base.specs.Numbers.{num_of, value_after}
use Rattle.std.proofs.lemmas.Str.Parse.{IsNumeralModel, numerals_by_fold}
use Rattle.ind_base.proofs.Numerals.{num_of-decimal}
use Rattle.line_text.specs.Tokens.{is_digit, is_lower, is_upper, number_token, is_word_byte, is_blank, Piece, Run, Arrow, Mark, onto_run, onto_mark, pieces, token_of_run, token_of_mark, tokens_in, tokens_of}
use Rattle.line_text.specs.declared.token.Token.{Token}
use Rattle.line_text.specs.declared.token.Token.TheVariants.{Word, Number, Mark as Symbol, Arrow as Equals}
use Rattle.line_text.specs.Spelling.{Part, One, Gap, spell, tokens_in_parts, begins_apart, is_apart, AreSpelt, all_word}
use Rattle.line_text.proofs.Guards.{and_true}

pub own : IsNumeralModel (λ ds. all_ascii_digits ds ≡ true) (value_after 0)
own = numerals_by_fold _ (search rules) value_after (search rules)

-- the pieces begin with no run
abbrev pub no_run : List Piece → Bool
no_run [] = true
no_run (Run bytes ∷ ps) = false
no_run (Arrow ∷ ps) = true
no_run (Mark b ∷ ps) = true

new_run : (b : ℕ) (ps : List Piece) → no_run ps ≡ true → onto_run b ps ≡ Run (b ∷ []) ∷ ps
new_run b [] e = refl
new_run b (Run bytes ∷ ps) e = absurd cc
new_run b (Arrow ∷ ps) e = refl
new_run b (Mark c ∷ ps) e = refl

no_run_either : (t : Bool) (b c : ℕ) (ps : List Piece) → no_run (cond t (Arrow ∷ ps) (Mark b ∷ Mark c ∷ ps)) ≡ true
no_run_either true b c ps = refl
no_run_either false b c ps = refl

mark_first : (b : ℕ) (ps : List Piece) → no_run (onto_mark b ps) ≡ true
mark_first b [] = refl
mark_first b (Run bytes ∷ ps) = refl
mark_first b (Arrow ∷ ps) = refl
mark_first b (Mark c ∷ ps) = no_run_either (eqb b 61 && eqb c 62) b c ps

-- a word and what doesn't begin with one
pub run_of : (b : ℕ) (w rest : List ℕ) → all_word (b ∷ w) ≡ true → no_run (pieces rest) ≡ true → pieces ((b ∷ w) ++ rest) ≡ Run (b ∷ w) ∷ pieces rest
run_of b [] rest all apart = rw ((and_true (is_word_byte b) true all).0) (new_run b (pieces rest) apart)
run_of b (c ∷ w) rest all apart =
    let h = and_true (is_word_byte b) (all_word (c ∷ w)) all in
    let shorter = run_of c w rest h.1 apart in
    rw (h.0) (ap (onto_run b) shorter)

pub or_true : (a b : Bool) → (a || b) ≡ true → (a ≡ true) ⊎ (b ≡ true)
or_true true b e = inl refl
or_true false b e = inr e

one_mark : (p : ℕ → Bool) (b c : ℕ) (rest : Bool) → p c ≡ false → (rest ≡ true → p b ≡ false) → (rest || eqb b c) ≡ true → p b ≡ false
one_mark p b c rest pc h e = elim (or_true rest (eqb b c) e) [ inl y ↦ h y | inr x ↦ rw (eqb-true b c x) pc ]

-- a test that fails at each mark fails at this one
pub mark_fails : (p : ℕ → Bool) (b : ℕ) → p 40 ≡ false → p 41 ≡ false → p 44 ≡ false → p 58 ≡ false → p 42 ≡ false → p 45 ≡ false → p 61 ≡ false
    → (eqb b 40 || eqb b 41 || eqb b 44 || eqb b 58 || eqb b 42 || eqb b 45 || eqb b 61) ≡ true → p b ≡ false
mark_fails p b p1 p2 p3 p4 p5 p6 p7 e =
    one_mark p b 61 (eqb b 40 || eqb b 41 || eqb b 44 || eqb b 58 || eqb b 42 || eqb b 45) p7 (one_mark p b 45 (eqb b 40 || eqb b 41 || eqb b 44 || eqb b 58 || eqb b 42) p6 (one_mark p b 42 (eqb b 40 || eqb b 41 || eqb b 44 || eqb b 58) p5 (one_mark p b 58 (eqb b 40 || eqb b 41 || eqb b 44) p4 (one_mark p b 44 (eqb b 40 || eqb b 41) p3 (one_mark p b 41 (eqb b 40) p2 (λ h. rw (eqb-true b 40 h) p1)))))) e

is_some : {A : Type 0} → (t : Bool) (x y : A) → cond t (Some x) None ≡ Some y → t ≡ true
is_some true x y e = refl
is_some false x y e = absurd cc

mark_word : (b : ℕ) → token_of_mark b ≡ Some (Symbol b) → is_word_byte b ≡ false
mark_word b e = mark_fails is_word_byte b refl refl refl refl refl refl refl (is_some _ (Symbol b) (Symbol b) e)

mark_blank : (b : ℕ) → token_of_mark b ≡ Some (Symbol b) → is_blank b ≡ false
mark_blank b e = mark_fails is_blank b refl refl refl refl refl refl refl (is_some _ (Symbol b) (Symbol b) e)

-- what the pieces begin with
begins : (ps : List Part) → begins_apart ps ≡ true → AreSpelt ps → no_run (pieces (spell ps)) ≡ true
begins [] e spelt = refl
begins (One (Word w) ∷ ps) e spelt = absurd cc
begins (One (Number n) ∷ ps) e spelt = absurd cc
begins (One (Symbol b) ∷ ps) e spelt = rw (mark_word b spelt.0) (mark_first b (pieces (spell ps)))
begins (One Equals ∷ ps) e spelt = mark_first 61 (pieces (62 ∷ spell ps))
begins (Gap ∷ ps) e spelt = mark_first 32 (pieces (spell ps))

-- a run that is a token, before what is read behind it
run_read : (t : Token) (run rest : List ℕ) (ts : List Token) → all_word run ≡ true → token_of_run run ≡ Some t → no_run (pieces rest) ≡ true → tokens_of rest ≡ Some ts → tokens_of (run ++ rest) ≡ Some (t ∷ ts)
unfolding tokens_of
run_read t [] rest ts all is apart read = absurd cc
run_read t (b ∷ w) rest ts all is apart read = rw (run_of b w rest all apart, is, read) refl

nothing : tokens_of [] ≡ Some []
unfolding tokens_of
nothing = refl

not_both : (t : Bool) (x y : List Piece) → cond (t && false) x y ≡ y
not_both true x y = refl
not_both false x y = refl

-- no `>` stands alone in what is read
alone_before : (b c : ℕ) (ps : List Piece) (ts : List Token) (t : Bool) → eqb c 62 ≡ t → tokens_in (Mark c ∷ ps) ≡ Some ts → onto_mark b (Mark c ∷ ps) ≡ Mark b ∷ Mark c ∷ ps
alone_before b c ps ts true e read =
    let is : c ≡ 62 = eqb-true c 62 e in
    absurd (no_end ps ts (rw is at read))
  where
    no_end : (qs : List Piece) (us : List Token) → tokens_in (Mark 62 ∷ qs) ≡ Some us → ⊥
    no_end qs us r = absurd cc
alone_before b c ps ts false e read = rw e (not_both (eqb b 61) _ _)

alone : (b : ℕ) (ps : List Piece) (ts : List Token) → tokens_in ps ≡ Some ts → onto_mark b ps ≡ Mark b ∷ ps
alone b [] ts read = refl
alone b (Run bytes ∷ ps) ts read = refl
alone b (Arrow ∷ ps) ts read = refl
alone b (Mark c ∷ ps) ts read = alone_before b c ps ts (eqb c 62) refl read

mark_read : (b : ℕ) (rest : List ℕ) (ts : List Token) → token_of_mark b ≡ Some (Symbol b) → tokens_of rest ≡ Some ts → tokens_of (b ∷ rest) ≡ Some (Symbol b ∷ ts)
unfolding tokens_of
mark_read b rest ts is read = rw (mark_word b is, alone b (pieces rest) ts read, mark_blank b is, is, read) refl

folded : (ps : List Piece) → onto_mark 61 (onto_mark 62 ps) ≡ Arrow ∷ ps
folded [] = refl
folded (Run bs ∷ ps) = refl
folded (Arrow ∷ ps) = refl
folded (Mark d ∷ ps) = refl

arrow_read : (rest : List ℕ) (ts : List Token) → tokens_of rest ≡ Some ts → tokens_of (61 ∷ 62 ∷ rest) ≡ Some (Equals ∷ ts)
unfolding tokens_of
arrow_read rest ts read = rw (folded (pieces rest), read) refl

gap_read : (rest : List ℕ) (ts : List Token) → tokens_of rest ≡ Some ts → tokens_of (32 ∷ rest) ≡ Some ts
unfolding tokens_of
gap_read rest ts read = rw (alone 32 (pieces rest) ts read) read

and_one : (a : Bool) → a ≡ true → (a && true) ≡ true
and_one true e = refl
and_one false e = absurd cc

third : (a b c d : Bool) → c ≡ true → (a || b || c || d) ≡ true
third true b c d e = refl
third false true c d e = refl
third false false true d e = refl
third false false false d e = absurd cc

pub digits_word : (ds : List ℕ) → all_ascii_digits ds ≡ true → all_word ds ≡ true
digits_word [] e = refl
digits_word (d ∷ ds) e =
    let h = and_true (is_digit d) (all_ascii_digits ds) e in
    rw (digits_word ds h.1) (and_one (is_word_byte d) (third (is_lower d) (is_upper d) (is_digit d) (eqb d 95) h.0))

pub token_digits : (ds : List ℕ) → all_ascii_digits ds ≡ true → 0 < length ds → token_of_run ds ≡ number_token (num_of ds)
token_digits [] e some = absurd (omega arith)
token_digits (d ∷ ds) e some = rw ((and_true (is_digit d) (all_ascii_digits ds) e).0) refl

number_read : (n : ℕ) → n < 2 ^ 64 → token_of_run (decimal n) ≡ Some (Number n)
number_read n small = token_digits (decimal n) (digits_decimal own n small) (decimal_nonempty n small) ∙ ap number_token (num_of-decimal n small)

-- the text of parts that stand apart is read as their tokens
pub spelt_read : (ps : List Part) → is_apart ps ≡ true → AreSpelt ps → tokens_of (spell ps) ≡ Some (tokens_in_parts ps)
spelt_read [] apart spelt = nothing
spelt_read (One (Word w) ∷ ps) apart spelt =
    let h = and_true (begins_apart ps) (is_apart ps) apart in
    run_read (Word w) w (spell ps) (tokens_in_parts ps) spelt.0.0 spelt.0.1 (begins ps h.0 spelt.1) (spelt_read ps h.1 spelt.1)
spelt_read (One (Number n) ∷ ps) apart spelt =
    let h = and_true (begins_apart ps) (is_apart ps) apart in
    run_read (Number n) (decimal n) (spell ps) (tokens_in_parts ps) (digits_word (decimal n) (digits_decimal own n spelt.0)) (number_read n spelt.0) (begins ps h.0 spelt.1) (spelt_read ps h.1 spelt.1)
spelt_read (One (Symbol b) ∷ ps) apart spelt = mark_read b (spell ps) (tokens_in_parts ps) spelt.0 (spelt_read ps apart spelt.1)
spelt_read (One Equals ∷ ps) apart spelt = arrow_read (spell ps) (tokens_in_parts ps) (spelt_read ps apart spelt.1)
spelt_read (Gap ∷ ps) apart spelt = gap_read (spell ps) (tokens_in_parts ps) (spelt_read ps apart spelt)
