-- Where lines and comments end.
use Rattle.std.proofs.Common.{◌≡◌, ◌≢◌, ℕ, zero, suc, ◌<◌, Bool, true, false, cond, eqb, ◌&&◌, List, [], ◌∷◌, length, get_or, take, drop, refl, ap, ◌∙◌, arith}
use Rattle.std.proofs.lemmas.Bool.{eq-eqb, ne_eqb}
use Rattle.line_text.specs.Lines.{lines_of, onto_first, begins_with, without_return}
use Rattle.line_text.specs.Bytes.{before_comment}

-- none of the first n bytes is this one
abbrev pub Lacks : ℕ → ℕ → List ℕ → Type 0
Lacks c n bytes = (k : ℕ) → k < n → get_or bytes k 0 ≢ c

pub before_comment-cut : (n : ℕ) (line : List ℕ) → n < length line → Lacks 35 n line → get_or line n 0 ≡ 35 → before_comment line ≡ take n line
before_comment-cut n [] lt lacks is = absurd (omega arith)
before_comment-cut zero (b ∷ bs) lt lacks is = rw (eq-eqb b 35 is) refl
before_comment-cut (suc n) (b ∷ bs) lt lacks is =
    let rest = before_comment-cut n bs (omega arith) (λ k small. lacks (suc k) (omega arith)) is in
    rw (ne_eqb b 35 (lacks 0 (omega arith)), rest) refl

pub before_comment-all : (line : List ℕ) → Lacks 35 (length line) line → before_comment line ≡ line
before_comment-all [] lacks = refl
before_comment-all (b ∷ bs) lacks =
    let rest = before_comment-all bs (λ k small. lacks (suc k) (omega arith)) in
    rw (ne_eqb b 35 (lacks 0 (omega arith)), rest) refl

pub without_return-cut : (n : ℕ) (line : List ℕ) → length line ≡ suc n → get_or line n 0 ≡ 13 → without_return line ≡ take n line
without_return-cut n [] len is = absurd (omega arith)
without_return-cut zero (b ∷ []) len is = rw (eq-eqb b 13 is) refl
without_return-cut (suc n) (b ∷ []) len is = absurd (omega arith)
without_return-cut zero (b ∷ c ∷ bs) len is = absurd (omega arith)
without_return-cut (suc n) (b ∷ c ∷ bs) len is = ap (λ (xs : List ℕ). b ∷ xs) (without_return-cut n (c ∷ bs) (omega arith) is)

pub without_return-keep : (n : ℕ) (line : List ℕ) → length line ≡ suc n → get_or line n 0 ≢ 13 → without_return line ≡ line
without_return-keep n [] len is = refl
without_return-keep zero (b ∷ []) len is = rw (ne_eqb b 13 is) refl
without_return-keep (suc n) (b ∷ []) len is = absurd (omega arith)
without_return-keep zero (b ∷ c ∷ bs) len is = absurd (omega arith)
without_return-keep (suc n) (b ∷ c ∷ bs) len is = ap (λ (xs : List ℕ). b ∷ xs) (without_return-keep n (c ∷ bs) (omega arith) is)

one_byte : (t : Bool) (b : ℕ) (rest : List (List ℕ)) → cond (t && true) ([] ∷ rest) ((b ∷ []) ∷ rest) ≡ cond t [] (b ∷ []) ∷ rest
one_byte true b rest = refl
one_byte false b rest = refl

never : (t : Bool) → (t && false) ≡ false
never true = refl
never false = refl

step : (b : ℕ) (bs : List ℕ) → b ≢ 10 → begins_with 10 bs ≡ false → lines_of (b ∷ bs) ≡ onto_first b (lines_of bs)
step b bs ne other = rw (ne_eqb b 10 ne, other, never (eqb b 13)) refl

pub lines_of-cut : (n : ℕ) (bytes : List ℕ) → n < length bytes → Lacks 10 n bytes → get_or bytes n 0 ≡ 10 → lines_of bytes ≡ without_return (take n bytes) ∷ lines_of (drop (suc n) bytes)
lines_of-cut n [] lt lacks is = absurd (omega arith)
lines_of-cut zero (b ∷ bs) lt lacks is = rw (eq-eqb b 10 is) refl
lines_of-cut (suc n) (b ∷ []) lt lacks is = absurd (omega arith)
lines_of-cut (suc zero) (b ∷ c ∷ bs) lt lacks is = rw (ne_eqb b 10 (lacks 0 (omega arith)), eq-eqb c 10 is) (one_byte (eqb b 13) b (lines_of bs))
lines_of-cut (suc (suc n)) (b ∷ c ∷ bs) lt lacks is =
    let rest = lines_of-cut (suc n) (c ∷ bs) (omega arith) (λ k small. lacks (suc k) (omega arith)) is in
    let other : eqb c 10 ≡ false = ne_eqb c 10 (lacks 1 (omega arith)) in
    step b (c ∷ bs) (lacks 0 (omega arith)) other ∙ ap (onto_first b) rest

pub lines_of-last : (bytes : List ℕ) → 0 < length bytes → Lacks 10 (length bytes) bytes → lines_of bytes ≡ bytes ∷ []
lines_of-last [] some lacks = absurd (omega arith)
lines_of-last (b ∷ []) some lacks = rw (ne_eqb b 10 (lacks 0 (omega arith)), never (eqb b 13)) refl
lines_of-last (b ∷ c ∷ bs) some lacks =
    let rest = lines_of-last (c ∷ bs) (omega arith) (λ k small. lacks (suc k) (omega arith)) in
    let other : eqb c 10 ≡ false = ne_eqb c 10 (lacks 1 (omega arith)) in
    step b (c ∷ bs) (lacks 0 (omega arith)) other ∙ ap (onto_first b) rest
