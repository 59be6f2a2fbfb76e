-- A line piece by piece.
use Rattle.std.proofs.Common.{◌≡◌, ◌⊎◌, inl, inr, ℕ, zero, suc, ◌<◌, ◌≤◌, Bool, true, false, cond, eqb, ◌&&◌, List, [], ◌∷◌, ◌++◌, length, get_or, take, drop, refl, ap, arith}
use Rattle.std.specs.Prelude.{Option, Some, None}
use Rattle.std.proofs.lemmas.Bool.{eqb-true}
use Rattle.std.proofs.Common.{append_assoc}
use Rattle.line_text.specs.declared.cause.FormError.{FormError}
use Rattle.line_text.specs.declared.cause.FormError.TheVariants as errors
use Rattle.line_text.specs.declared.token.Token.{Token}
use Rattle.line_text.specs.declared.token.Token.TheVariants.{Arrow as Equals}
use Rattle.line_text.specs.Reads.{◌>>=◌, Fails}
use Rattle.line_text.specs.Tokens.{is_word_byte, is_blank, Piece, Run, Mark, Arrow, onto_run, onto_mark, starts_arrow, pieces, token_of_run, token_of_mark, tokens_of, before}

and_true : (a b : Bool) → (a && b) ≡ true → (a ≡ true) × (b ≡ true)
and_true true b e = (refl, e)
and_true false b e = absurd cc

-- the first n bytes are of words
abbrev pub AreWord : ℕ → List ℕ → Type 0
AreWord n bytes = (k : ℕ) → k < n → is_word_byte (get_or bytes k 0) ≡ true

-- the run ends there
abbrev pub EndsAt : ℕ → List ℕ → Type 0
EndsAt n bytes = (length bytes ≡ n) ⊎ (is_word_byte (get_or bytes n 0) ≡ false)

-- a run ends before a mark
run_before : (b c : ℕ) (ps : List Piece) → onto_run b (onto_mark c ps) ≡ Run (b ∷ []) ∷ onto_mark c ps
run_before b c [] = refl
run_before b c (Run bytes ∷ ps) = refl
run_before b c (Arrow ∷ ps) = refl
run_before b c (Mark d ∷ ps) = inner (eqb c 61 && eqb d 62)
  where
    inner : (t : Bool) → onto_run b (cond t (Arrow ∷ ps) (Mark c ∷ Mark d ∷ ps)) ≡ Run (b ∷ []) ∷ cond t (Arrow ∷ ps) (Mark c ∷ Mark d ∷ ps)
    inner true = refl
    inner false = refl

pub run_pieces : (n : ℕ) (bytes : List ℕ) → n < length bytes → AreWord (suc n) bytes → EndsAt (suc n) bytes → pieces bytes ≡ Run (take (suc n) bytes) ∷ pieces (drop (suc n) bytes)
run_pieces n [] lt words end = absurd (omega arith)
run_pieces zero (b ∷ []) lt words end = rw (words 0 (omega arith)) refl
run_pieces zero (b ∷ c ∷ cs) lt words (inl e) = absurd (omega arith)
run_pieces zero (b ∷ c ∷ cs) lt words (inr e) = rw (words 0 (omega arith), e) (run_before b c (pieces cs))
run_pieces (suc n) (b ∷ bytes) lt words end =
    let shorter = run_pieces n bytes (omega arith) (λ k small. words (suc k) (omega arith)) (elim end [ inl e ↦ inl (omega arith) | inr w ↦ inr w ]) in
    rw (words 0 (omega arith), shorter) refl

pub run_at : (n : ℕ) (bytes : List ℕ) → 0 < n → n ≤ length bytes → AreWord n bytes → EndsAt n bytes → pieces bytes ≡ Run (take n bytes) ∷ pieces (drop n bytes)
run_at zero bytes some within words end = absurd (omega arith)
run_at (suc n) bytes some within words end = run_pieces n bytes (omega arith) words end

not_both : (b c : ℕ) (x y : List Piece) → (eqb b 61 && eqb c 62) ≡ false → cond (eqb b 61 && eqb c 62) x y ≡ y
not_both b c x y e = rw e refl

-- a mark stays one where what follows isn't the end of an arrow
alone : (b c : ℕ) (word : Bool) (ps : List Piece) → (eqb b 61 && eqb c 62) ≡ false → onto_mark b (cond word (onto_run c ps) (onto_mark c ps)) ≡ Mark b ∷ cond word (onto_run c ps) (onto_mark c ps)
alone b c true [] e = refl
alone b c true (Run bytes ∷ ps) e = refl
alone b c true (Arrow ∷ ps) e = refl
alone b c true (Mark d ∷ ps) e = refl
alone b c false [] e = not_both b c _ _ e
alone b c false (Run bytes ∷ ps) e = not_both b c _ _ e
alone b c false (Arrow ∷ ps) e = not_both b c _ _ e
alone b c false (Mark d ∷ ps) e = inner (eqb c 61 && eqb d 62)
  where
    inner : (t : Bool) → onto_mark b (cond t (Arrow ∷ ps) (Mark c ∷ Mark d ∷ ps)) ≡ Mark b ∷ cond t (Arrow ∷ ps) (Mark c ∷ Mark d ∷ ps)
    inner true = refl
    inner false = not_both b c _ _ e

pub mark_at : (bytes : List ℕ) → 0 < length bytes → is_word_byte (get_or bytes 0 0) ≡ false → starts_arrow bytes ≡ false → pieces bytes ≡ Mark (get_or bytes 0 0) ∷ pieces (drop 1 bytes)
mark_at [] some other no_arrow = absurd (omega arith)
mark_at (b ∷ []) some other no_arrow = rw other refl
mark_at (b ∷ c ∷ bytes) some other no_arrow = rw other (alone b c (is_word_byte c) (pieces bytes) no_arrow)

pub arrow_at : (bytes : List ℕ) → starts_arrow bytes ≡ true → pieces bytes ≡ Arrow ∷ pieces (drop 2 bytes)
arrow_at [] e = absurd cc
arrow_at (b ∷ []) e = absurd cc
arrow_at (b ∷ c ∷ bytes) e =
    let h = and_true (eqb b 61) (eqb c 62) e in
    rw (eqb-true b 61 h.0, eqb-true c 62 h.1) (folded (pieces bytes))
  where
    folded : (ps : List Piece) → onto_mark 61 (onto_mark 62 ps) ≡ Arrow ∷ ps
    folded [] = refl
    folded (Run bs ∷ ps) = refl
    folded (Arrow ∷ ps) = refl
    folded (Mark d ∷ ps) = refl

-- what was read before, and what is still read
abbrev pub with_front : List Token → Option (List Token) → Option (List Token)
with_front front read = read >>= λ ts. Some (front ++ ts)

pub with_front-before : (front : List Token) (t : Token) (read : Option (List Token)) → with_front front (before (Some t) read) ≡ with_front (front ++ t ∷ []) read
with_front-before front t None = refl
with_front-before front t (Some ts) = ap (λ (xs : List Token). Some xs) (simp append_assoc)

pub run_taken : (t : Token) (bytes run others : List ℕ) → pieces bytes ≡ Run run ∷ pieces others → token_of_run run ≡ Some t → tokens_of bytes ≡ before (Some t) (tokens_of others)
unfolding tokens_of
run_taken t bytes run others split is = rw (split, is) refl

pub run_refused : (e : FormError) (bytes run others : List ℕ) → pieces bytes ≡ Run run ∷ pieces others → Fails e (token_of_run run) → Fails e (tokens_of bytes)
unfolding tokens_of
run_refused errors.Memory bytes run others split is = tt
run_refused errors.Refused bytes run others split is = rw (split, is) refl

pub blank_passed : (bytes : List ℕ) → 0 < length bytes → is_word_byte (get_or bytes 0 0) ≡ false → starts_arrow bytes ≡ false → is_blank (get_or bytes 0 0) ≡ true → tokens_of bytes ≡ tokens_of (drop 1 bytes)
unfolding tokens_of
blank_passed bytes some other no_arrow blank = rw (mark_at bytes some other no_arrow, blank) refl

pub mark_taken : (t : Token) (bytes : List ℕ) → 0 < length bytes → is_word_byte (get_or bytes 0 0) ≡ false → starts_arrow bytes ≡ false → is_blank (get_or bytes 0 0) ≡ false → token_of_mark (get_or bytes 0 0) ≡ Some t → tokens_of bytes ≡ before (Some t) (tokens_of (drop 1 bytes))
unfolding tokens_of
mark_taken t bytes some other no_arrow ink is = rw (mark_at bytes some other no_arrow, ink, is) refl

pub mark_refused : (e : FormError) (bytes : List ℕ) → 0 < length bytes → is_word_byte (get_or bytes 0 0) ≡ false → starts_arrow bytes ≡ false → is_blank (get_or bytes 0 0) ≡ false → Fails e (token_of_mark (get_or bytes 0 0)) → Fails e (tokens_of bytes)
unfolding tokens_of
mark_refused errors.Memory bytes some other no_arrow ink is = tt
mark_refused errors.Refused bytes some other no_arrow ink is = rw (mark_at bytes some other no_arrow, ink, is) refl

pub arrow_taken : (bytes : List ℕ) → starts_arrow bytes ≡ true → tokens_of bytes ≡ before (Some Equals) (tokens_of (drop 2 bytes))
unfolding tokens_of
arrow_taken bytes e = rw (arrow_at bytes e) refl

pub tokens_none : tokens_of [] ≡ Some []
unfolding tokens_of
tokens_none = refl
