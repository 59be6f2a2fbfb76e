-- What is read from tokens that can be spelt is read again from their text.
use Rattle.std.proofs.Common.{◌≡◌, ◌≢◌, ℕ, ◌<◌, ◌≤◌, ◌^◌, Bool, true, false, cond, not, ◌&&◌, ◌||◌, eqb, leb, inl, inr, List, [], ◌∷◌, ◌++◌, length, refl, sym, ap, subst, ◌∙◌, arith, append_assoc}
use Rattle.std.specs.Prelude.{Ok, Option, Some, None, decimal, nat_le, nat_lt}
use Rattle.std.specs.List.{AllByRecursion, list_all, flat_map}
use Rattle.std.proofs.lemmas.Bool.{eqb-true, leb-true, ltb-true, le-leb, ne_eqb}
use Rattle.std.proofs.lemmas.List.Folds.{list_all-append}
use Rattle.std.proofs.lemmas.Fmt.{digits_decimal}
use Rattle.line_text.specs.declared.cause.Cause.TheVariants.{BadToken}
use Rattle.line_text.specs.declared.token.Token.{Token}
use Rattle.line_text.specs.declared.token.Token.TheVariants.{Word, Number, Mark as Symbol, Arrow as Equals}
use Rattle.line_text.specs.Reads.{◌>>=◌}
use Rattle.line_text.specs.Bytes.{is_plain, all_plain, before_comment}
use Rattle.line_text.specs.Lines.{lines_of}
use Rattle.line_text.specs.Tokens.{Piece, Run, Arrow, Mark, is_lower, is_upper, is_digit, is_word_byte, is_blank, onto_run, onto_mark, pieces, token_of_run, token_of_mark, tokens_in, tokens_of, number_token, are_small}
use Rattle.line_text.specs.Causes.{caused}
use Rattle.line_text.specs.Texts.{line_tokens}
use Rattle.line_text.specs.Spelling.{Part, One, Gap, token_text, spell, tokens_in_parts, IsSpelt, is_apart, all_word}
use Rattle.line_text.proofs.Guards.{and_true, not_true, guard_ok, bind_ok, ok_same, caused_ok}
use Rattle.line_text.proofs.Inverse.{bind_some, some_same, there, tested}
use Rattle.line_text.proofs.Listing.{spelt_parts}
use Rattle.line_text.proofs.Spelling.{own, or_true, mark_fails, digits_word, spelt_read}
use Rattle.ind_base.specs.Numbers.{num_of, value_after, is_canonical}

-- ---- tokens that are read can be spelt

abbrev PieceOfWord : Piece → Type 0
PieceOfWord (Run bytes) = all_word bytes ≡ true
PieceOfWord Arrow = Unit {0}
PieceOfWord (Mark b) = Unit {0}

run_more : (b : ℕ) (ps : List Piece) → is_word_byte b ≡ true → AllByRecursion PieceOfWord ps → AllByRecursion PieceOfWord (onto_run b ps)
run_more b [] e h = (rw e refl, tt)
run_more b (Run bytes ∷ ps) e h = (rw e h.0, h.1)
run_more b (Arrow ∷ ps) e h = (rw e refl, h)
run_more b (Mark c ∷ ps) e h = (rw e refl, h)

mark_more : (b : ℕ) (ps : List Piece) → AllByRecursion PieceOfWord ps → AllByRecursion PieceOfWord (onto_mark b ps)
mark_more b [] h = (tt, tt)
mark_more b (Run bytes ∷ ps) h = (tt, h)
mark_more b (Arrow ∷ ps) h = (tt, h)
mark_more b (Mark c ∷ ps) h = either (eqb b 61 && eqb c 62)
  where
    either : (t : Bool) → AllByRecursion PieceOfWord (cond t (Arrow ∷ ps) (Mark b ∷ Mark c ∷ ps))
    either true = (tt, h.1)
    either false = (tt, h)

one_piece : (b : ℕ) (ps : List Piece) (t : Bool) → is_word_byte b ≡ t → AllByRecursion PieceOfWord ps → AllByRecursion PieceOfWord (cond t (onto_run b ps) (onto_mark b ps))
one_piece b ps true e h = run_more b ps e h
one_piece b ps false e h = mark_more b ps h

pieces_of_word : (bytes : List ℕ) → AllByRecursion PieceOfWord (pieces bytes)
pieces_of_word [] = tt
pieces_of_word (b ∷ bs) = one_piece b (pieces bs) (is_word_byte b) refl (pieces_of_word bs)

numeral_small : (ds : List ℕ) (n : ℕ) → num_of ds ≡ Some n → n < 2 ^ 64
numeral_small ds n e =
    let h = tested (is_canonical ds && nat_lt (value_after 0 ds) (2 ^ 64)) (value_after 0 ds) n e in
    subst (λ (k : ℕ). k < 2 ^ 64) h.1 (ltb-true (value_after 0 ds) (2 ^ 64) (and_true (is_canonical ds) (nat_lt (value_after 0 ds) (2 ^ 64)) h.0).1)

number_spelt : (ds : List ℕ) (o : Option ℕ) (t : Token) → num_of ds ≡ o → number_token o ≡ Some t → IsSpelt t
number_spelt ds None t is e = absurd cc
number_spelt ds (Some n) t is e = subst IsSpelt (some_same (Number n) t e) (numeral_small ds n is)

word_spelt : (run : List ℕ) (good : Bool) (t : Token) → all_word run ≡ true → token_of_run run ≡ Some t → cond good (Some (Word run)) None ≡ Some t → IsSpelt t
word_spelt run good t w e is =
    let h = tested good (Word run) t is in
    subst IsSpelt h.1 (w, e ∙ ap (λ (u : Token). there u) (sym h.1))

run_kind : (b : ℕ) (bs : List ℕ) (t : Token) (digit : Bool) → is_digit b ≡ digit → all_word (b ∷ bs) ≡ true → token_of_run (b ∷ bs) ≡ Some t → IsSpelt t
run_kind b bs t true is w e = number_spelt (b ∷ bs) (num_of (b ∷ bs)) t refl (rw is at e)
run_kind b bs t false is w e = word_spelt (b ∷ bs) (is_lower b && nat_le (length (b ∷ bs)) 32) t w e (rw is at e)

run_spelt : (run : List ℕ) (t : Token) → all_word run ≡ true → token_of_run run ≡ Some t → IsSpelt t
run_spelt [] t w e = absurd cc
run_spelt (b ∷ bs) t w e = run_kind b bs t (is_digit b) refl w e

mark_spelt : (b : ℕ) (t : Token) → token_of_mark b ≡ Some t → IsSpelt t
mark_spelt b t e =
    let h = tested (eqb b 40 || eqb b 41 || eqb b 44 || eqb b 58 || eqb b 42 || eqb b 45 || eqb b 61) (Symbol b) t e in
    subst IsSpelt h.1 (e ∙ ap (λ (u : Token). there u) (sym h.1))

mark_piece : (b : ℕ) (ps : List Piece) (ts : List Token) (blank : Bool) → ((us : List Token) → tokens_in ps ≡ Some us → AllByRecursion IsSpelt us)
    → cond blank (tokens_in ps) (token_of_mark b >>= λ t. (tokens_in ps >>= λ us. Some (t ∷ us))) ≡ Some ts → AllByRecursion IsSpelt ts
mark_piece b ps ts true rest e = rest ts e
mark_piece b ps ts false rest e =
    let h = bind_some (token_of_mark b) (λ (t : Token). tokens_in ps >>= λ us. Some (t ∷ us)) ts e in
    let k = bind_some (tokens_in ps) (λ (us : List Token). Some (h.0 ∷ us)) ts h.2 in
    subst (AllByRecursion IsSpelt) (some_same (h.0 ∷ k.0) ts k.2) (mark_spelt b h.0 h.1, rest k.0 k.1)

pieces_spelt : (ps : List Piece) (ts : List Token) → AllByRecursion PieceOfWord ps → tokens_in ps ≡ Some ts → AllByRecursion IsSpelt ts
pieces_spelt [] ts w e = subst (AllByRecursion IsSpelt) (some_same [] ts e) tt
pieces_spelt (Run run ∷ ps) ts w e =
    let h = bind_some (token_of_run run) (λ (t : Token). tokens_in ps >>= λ us. Some (t ∷ us)) ts e in
    let k = bind_some (tokens_in ps) (λ (us : List Token). Some (h.0 ∷ us)) ts h.2 in
    subst (AllByRecursion IsSpelt) (some_same (h.0 ∷ k.0) ts k.2) (run_spelt run h.0 w.0 h.1, pieces_spelt ps k.0 w.1 k.1)
pieces_spelt (Arrow ∷ ps) ts w e =
    let k = bind_some (tokens_in ps) (λ (us : List Token). Some (Equals ∷ us)) ts e in
    subst (AllByRecursion IsSpelt) (some_same (Equals ∷ k.0) ts k.2) (tt, pieces_spelt ps k.0 w.1 k.1)
pieces_spelt (Mark b ∷ ps) ts w e = mark_piece b ps ts (is_blank b) (λ us h. pieces_spelt ps us w.1 h) e

tokens_spelt : (line : List ℕ) (ts : List Token) → tokens_of line ≡ Some ts → AllByRecursion IsSpelt ts
unfolding tokens_of
tokens_spelt line ts e = pieces_spelt (pieces line) ts (pieces_of_word line) e

-- the tokens of a line, which can be spelt and keep their limits
pub record LineRead (line : List ℕ) (ts : List Token) : Type 0 where
  pub read : tokens_of (before_comment line) ≡ Some ts
  pub spelt : AllByRecursion IsSpelt ts
  pub small : are_small ts ≡ true

pub line_read : (line : List ℕ) (ts : List Token) → line_tokens line ≡ Ok ts → LineRead line ts
unfolding line_tokens
line_read line ts e =
    let a = guard_ok (all_plain line) _ _ ts e in
    let b = bind_ok (caused (tokens_of (before_comment line)) BadToken) _ ts a.1 in
    let c = guard_ok (are_small b.0) _ _ ts b.2 in
    let same = ok_same b.0 ts c.1 in
    let read = caused_ok (tokens_of (before_comment line)) BadToken b.0 b.1 in
    subst (LineRead line) same (record { read = read; spelt = tokens_spelt (before_comment line) b.0 read; small = c.0 })

-- ---- the bytes of a printed line

-- plain, and no comment
abbrev neat : ℕ → Bool
neat b = is_plain b && not (eqb b 35)

either : (t : Bool) → ((t || true) && true) ≡ true
either true = refl
either false = refl

neat_between : (b : ℕ) → 36 ≤ b → b ≤ 126 → neat b ≡ true
neat_between b low high =
    let far : b ≢ 35 = λ e. absurd (omega (arith, low, e)) in
    rw (le-leb 32 b (omega arith), le-leb b 126 high, ne_eqb b 35 far) (either (eqb b 9))

word_byte_neat : (b : ℕ) → is_word_byte b ≡ true → neat b ≡ true
word_byte_neat b e = elim (or_true (is_lower b || is_upper b || is_digit b) (eqb b 95) e) [ inl three ↦ letters three | inr line ↦ rw (eqb-true b 95 line) refl ]
  where
    lower : is_lower b ≡ true → neat b ≡ true
    lower h =
        let k = and_true (leb 97 b) (leb b 122) h in
        let low = leb-true 97 b k.0 in
        let high = leb-true b 122 k.1 in
        neat_between b (omega arith) (omega arith)

    upper : is_upper b ≡ true → neat b ≡ true
    upper h =
        let k = and_true (leb 65 b) (leb b 90) h in
        let low = leb-true 65 b k.0 in
        let high = leb-true b 90 k.1 in
        neat_between b (omega arith) (omega arith)

    digit : is_digit b ≡ true → neat b ≡ true
    digit h =
        let k = and_true (leb 48 b) (leb b 57) h in
        let low = leb-true 48 b k.0 in
        let high = leb-true b 57 k.1 in
        neat_between b (omega arith) (omega arith)

    two : (is_lower b || is_upper b) ≡ true → neat b ≡ true
    two h = elim (or_true (is_lower b) (is_upper b) h) [ inl l ↦ lower l | inr u ↦ upper u ]

    letters : (is_lower b || is_upper b || is_digit b) ≡ true → neat b ≡ true
    letters h = elim (or_true (is_lower b || is_upper b) (is_digit b) h) [ inl l ↦ two l | inr d ↦ digit d ]

word_neat : (w : List ℕ) → all_word w ≡ true → list_all neat w ≡ true
word_neat [] e = refl
word_neat (b ∷ bs) e =
    let h = and_true (is_word_byte b) (all_word bs) e in
    rw (word_byte_neat b h.0) (word_neat bs h.1)

abbrev untidy : ℕ → Bool
untidy b = not (neat b)

twice : (t : Bool) → not t ≡ false → t ≡ true
twice true e = refl
twice false e = absurd cc

mark_neat : (b : ℕ) → token_of_mark b ≡ Some (Symbol b) → neat b ≡ true
mark_neat b e = twice (neat b) (mark_fails untidy b refl refl refl refl refl refl refl (tested _ (Symbol b) (Symbol b) e).0)

token_neat : (t : Token) → IsSpelt t → list_all neat (token_text t) ≡ true
token_neat (Word w) s = word_neat w s.0
token_neat (Number n) s = word_neat (decimal n) (digits_word (decimal n) (digits_decimal own n s))
token_neat (Symbol b) s = rw (mark_neat b s) refl
token_neat Equals s = refl

spell_neat : (ps : List Part) → AllByRecursion IsSpelt (tokens_in_parts ps) → list_all neat (spell ps) ≡ true
spell_neat [] h = refl
spell_neat (One t ∷ ps) h = list_all-append neat (token_text t) (spell ps) ∙ rw (token_neat t h.0, spell_neat ps h.1) refl
spell_neat (Gap ∷ ps) h = spell_neat ps h

pub no_comment : (line : List ℕ) → list_all neat line ≡ true → before_comment line ≡ line
no_comment [] e = refl
no_comment (b ∷ bs) e =
    let h = and_true (neat b) (list_all neat bs) e in
    let k = and_true (is_plain b) (not (eqb b 35)) h.0 in
    let none = not_true (eqb b 35) k.1 in
    let rest = no_comment bs h.1 in
    rw (none, rest) refl

pub plain_line : (line : List ℕ) → list_all neat line ≡ true → all_plain line ≡ true
plain_line [] e = refl
plain_line (b ∷ bs) e =
    let h = and_true (neat b) (list_all neat bs) e in
    let k = and_true (is_plain b) (not (eqb b 35)) h.0 in
    rw (k.0) (plain_line bs h.1)

-- a printed line has the tokens that it was printed from, and only plain bytes
pub record TextRead (text : List ℕ) (ts : List Token) : Type 0 where
  pub read : line_tokens text ≡ Ok ts
  pub plain : all_plain text ≡ true

pub text_read : (ps : List Part) → is_apart ps ≡ true → AllByRecursion IsSpelt (tokens_in_parts ps) → are_small (tokens_in_parts ps) ≡ true → TextRead (spell ps) (tokens_in_parts ps)
unfolding line_tokens
text_read ps apart spelt small =
    let tidy = spell_neat ps spelt in
    let plain = plain_line (spell ps) tidy in
    let read = spelt_read ps apart (spelt_parts ps spelt) in
    record { read = rw (plain, no_comment (spell ps) tidy, read, small) refl; plain = plain }

-- ---- the lines of a printed text

-- no line ends here
no_end : (b : ℕ) → is_plain b ≡ true → (eqb b 10 ≡ false) × (eqb b 13 ≡ false)
no_end b e = elim (or_true (eqb b 9) (leb 32 b && leb b 126) e) [ inl tab ↦ rw (eqb-true b 9 tab) (refl, refl) | inr other ↦ above (and_true (leb 32 b) (leb b 126) other).0 ]
  where
    above : leb 32 b ≡ true → (eqb b 10 ≡ false) × (eqb b 13 ≡ false)
    above h =
        let low = leb-true 32 b h in
        (ne_eqb b 10 (λ q. absurd (omega (arith, low, q))), ne_eqb b 13 (λ q. absurd (omega (arith, low, q))))

line_first : (line rest : List ℕ) → all_plain line ≡ true → lines_of (line ++ 10 ∷ rest) ≡ line ∷ lines_of rest
line_first [] rest e = refl
line_first (b ∷ bs) rest e =
    let h = and_true (is_plain b) (all_plain bs) e in
    let k = no_end b h.0 in
    rw (k.0, k.1, line_first bs rest h.1) refl

-- lines with their ends are these lines
abbrev pub with_end : List ℕ → List ℕ
with_end line = line ++ 10 ∷ []

pub lines_again : (lines : List (List ℕ)) → AllByRecursion (λ line. all_plain line ≡ true) lines → lines_of (flat_map with_end lines) ≡ lines
lines_again [] h = refl
lines_again (line ∷ lines) h =
    ap lines_of (append_assoc line (10 ∷ []) (flat_map with_end lines)) ∙ line_first line (flat_map with_end lines) h.0 ∙ ap (λ (ls : List (List ℕ)). line ∷ ls) (lines_again lines h.1)
