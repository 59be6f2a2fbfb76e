-- The runs of a line, and the words among its tokens.
use Rattle.std.proofs.Common.{◌≡◌, ℕ, ◌<◌, Bool, true, false, cond, ◌&&◌, ◌||◌, eqb, List, [], ◌∷◌, length, get_or, drop, refl, sym, ap, ◌∙◌, arith}
use Rattle.std.specs.Prelude.{Option, Some, None}
use Rattle.std.specs.Str.{bytes_eq}
use Rattle.std.specs.List.{list_any, AllByRecursion}
use Rattle.ind_base.specs.Numbers.{num_of}
use Rattle.line_text.specs.declared.token.Token.{Token}
use Rattle.line_text.specs.declared.token.Token.TheVariants.{Word, Number, Mark as Symbol, Arrow as Equals}
use Rattle.line_text.specs.Reads.{◌>>=◌}
use Rattle.line_text.specs.Tokens.{Piece, Run, Arrow, Mark, is_digit, is_word, is_word_byte, is_blank, onto_mark, pieces, token_of_run, token_of_mark, tokens_in, tokens_of, number_token}
use Rattle.line_text.specs.Words.{runs_in, runs_of, run_before, is_one_of, is_among}
use Rattle.line_text.proofs.Inverse.{bind_some, some_same, same_bytes}

either : (t : Bool) (b c : ℕ) (ps : List Piece) → runs_in (cond t (Arrow ∷ ps) (Mark b ∷ Mark c ∷ ps)) ≡ runs_in ps
either true b c ps = refl
either false b c ps = refl

mark_passed : (b : ℕ) (ps : List Piece) → runs_in (onto_mark b ps) ≡ runs_in ps
mark_passed b [] = refl
mark_passed b (Run bytes ∷ ps) = refl
mark_passed b (Arrow ∷ ps) = refl
mark_passed b (Mark c ∷ ps) = either (eqb b 61 && eqb c 62) b c ps

-- another byte at the front is passed over
pub passed : (bytes : List ℕ) → 0 < length bytes → is_word_byte (get_or bytes 0 0) ≡ false → runs_of bytes ≡ runs_of (drop 1 bytes)
unfolding runs_of
passed [] some other = absurd (omega arith)
passed (b ∷ bs) some other = rw other (mark_passed b (pieces bs))

-- a run at the front
pub run_first : (bytes run others : List ℕ) → 0 < length run → pieces bytes ≡ Run run ∷ pieces others → runs_of bytes ≡ run_before run (runs_of others)
unfolding runs_of
run_first bytes [] others some split = absurd (omega arith)
run_first bytes (b ∷ run) others some split = ap runs_in split

-- it begins, and with no digit
abbrev pub IsNoNumber : List ℕ → Type 0
IsNoNumber [] = ⊥
IsNoNumber (b ∷ bs) = is_digit b ≡ false

never : (words : List (List ℕ)) (t : Token) → ((w : List ℕ) → is_word w t ≡ false) → is_among words t ≡ false
never [] t other = refl
never (w ∷ ws) t other = rw (other w) (never ws t other)

differ : (u : Bool) → u ≡ true → u ≡ false → ⊥
differ true y n = absurd cc
differ false y n = absurd cc

other_word : (b : ℕ) (bs w : List ℕ) → is_digit b ≡ true → IsNoNumber w → b ∷ bs ≡ w → ⊥
other_word b bs [] digit other e = absurd other
other_word b bs (c ∷ cs) digit other e =
    let first : b ≡ c = cc in
    differ (is_digit c) (rw first at digit) other

unequal : (t : Bool) (b : ℕ) (bs w : List ℕ) → is_digit b ≡ true → IsNoNumber w → bytes_eq (b ∷ bs) w ≡ t → t ≡ false
unequal true b bs w digit other e = absurd (other_word b bs w digit other (same_bytes (b ∷ bs) w e))
unequal false b bs w digit other e = refl

no_word : (words : List (List ℕ)) (b : ℕ) (bs : List ℕ) → AllByRecursion IsNoNumber words → is_digit b ≡ true → is_one_of words (b ∷ bs) ≡ false
no_word [] b bs all digit = refl
no_word (w ∷ ws) b bs all digit =
    let one = unequal (bytes_eq (b ∷ bs) w) b bs w digit all.0 refl in
    rw one (no_word ws b bs all.1 digit)

number_is : (words : List (List ℕ)) (o : Option ℕ) (t : Token) → number_token o ≡ Some t → is_among words t ≡ false
number_is words None t e = absurd cc
number_is words (Some n) t e = rw (← some_same (Number n) t e) (never words (Number n) (λ w. refl))

word_is : (words : List (List ℕ)) (run : List ℕ) (good : Bool) (t : Token) → cond good (Some (Word run)) None ≡ Some t → is_among words t ≡ is_one_of words run
word_is words run true t e = rw (← some_same (Word run) t e) refl
word_is words run false t e = absurd cc

run_is : (words : List (List ℕ)) (b : ℕ) (bs : List ℕ) (digit : Bool) (t : Token) → AllByRecursion IsNoNumber words → is_digit b ≡ digit → token_of_run (b ∷ bs) ≡ Some t → is_among words t ≡ is_one_of words (b ∷ bs)
run_is words b bs true t all is e = number_is words (num_of (b ∷ bs)) t (rw is at e) ∙ sym (no_word words b bs all is)
run_is words b bs false t all is e = word_is words (b ∷ bs) _ t (rw is at e)

mark_is : (words : List (List ℕ)) (b : ℕ) (good : Bool) (t : Token) → cond good (Some (Symbol b)) None ≡ Some t → is_among words t ≡ false
mark_is words b true t e = rw (← some_same (Symbol b) t e) (never words (Symbol b) (λ w. refl))
mark_is words b false t e = absurd cc

abbrev holds : List (List ℕ) → List Token → Bool
holds words ts = list_any (is_among words) ts

run_counts : (words : List (List ℕ)) (run : List ℕ) (t : Token) → AllByRecursion IsNoNumber words → token_of_run run ≡ Some t → is_among words t ≡ is_one_of words run
run_counts words [] t all e = absurd cc
run_counts words (b ∷ bs) t all e = run_is words b bs (is_digit b) t all refl e

marks_hold : (words : List (List ℕ)) (b : ℕ) (ps : List Piece) (ts : List Token) (blank : Bool) → ((us : List Token) → tokens_in ps ≡ Some us → holds words us ≡ list_any (is_one_of words) (runs_in ps))
    → cond blank (tokens_in ps) (token_of_mark b >>= λ t. (tokens_in ps >>= λ us. Some (t ∷ us))) ≡ Some ts → holds words ts ≡ list_any (is_one_of words) (runs_in ps)
marks_hold words b ps ts true rest e = rest ts e
marks_hold words b ps ts false rest e =
    let h = bind_some (token_of_mark b) (λ (t : Token). tokens_in ps >>= λ us. Some (t ∷ us)) ts e in
    let k = bind_some (tokens_in ps) (λ (us : List Token). Some (h.0 ∷ us)) ts h.2 in
    let none = mark_is words b _ h.0 h.1 in
    rw (← some_same (h.0 ∷ k.0) ts k.2, none) (rest k.0 k.1)

pieces_hold : (words : List (List ℕ)) → AllByRecursion IsNoNumber words → (ps : List Piece) (ts : List Token) → tokens_in ps ≡ Some ts → holds words ts ≡ list_any (is_one_of words) (runs_in ps)
pieces_hold words all [] ts e = rw (← some_same [] ts e) refl
pieces_hold words all (Run run ∷ ps) ts e =
    let h = bind_some (token_of_run run) (λ (t : Token). tokens_in ps >>= λ us. Some (t ∷ us)) ts e in
    let k = bind_some (tokens_in ps) (λ (us : List Token). Some (h.0 ∷ us)) ts h.2 in
    let one = run_counts words run h.0 all h.1 in
    rw (← some_same (h.0 ∷ k.0) ts k.2, one) (ap (λ (t : Bool). is_one_of words run || t) (pieces_hold words all ps k.0 k.1))
pieces_hold words all (Arrow ∷ ps) ts e =
    let k = bind_some (tokens_in ps) (λ (us : List Token). Some (Equals ∷ us)) ts e in
    let none = never words Equals (λ w. refl) in
    rw (← some_same (Equals ∷ k.0) ts k.2, none) (pieces_hold words all ps k.0 k.1)
pieces_hold words all (Mark b ∷ ps) ts e = marks_hold words b ps ts (is_blank b) (λ us h. pieces_hold words all ps us h) e

-- a word is among the tokens where it is among the runs
pub runs_hold : (words : List (List ℕ)) → AllByRecursion IsNoNumber words → (line : List ℕ) (ts : List Token) → tokens_of line ≡ Some ts → holds words ts ≡ list_any (is_one_of words) (runs_of line)
unfolding tokens_of runs_of
runs_hold words all line ts e = pieces_hold words all (pieces line) ts e

nothing : (words : List (List ℕ)) → AllByRecursion IsNoNumber words → is_one_of words [] ≡ false
nothing [] all = refl
nothing (w ∷ ws) all = rw (empty (bytes_eq [] w) w all.0 refl) (nothing ws all.1)
  where
    none : (v : List ℕ) → IsNoNumber v → [] ≡ v → ⊥
    none [] h e = h
    none (b ∷ bs) h e = absurd cc

    empty : (t : Bool) (v : List ℕ) → IsNoNumber v → bytes_eq [] v ≡ t → t ≡ false
    empty true v h e = absurd (none v h (same_bytes [] v e))
    empty false v h e = refl

-- the run at the front is none of the words
pub run_other : (words : List (List ℕ)) (rest run others : List ℕ) → runs_of rest ≡ run_before run (runs_of others) → is_one_of words run ≡ false → list_any (is_one_of words) (runs_of rest) ≡ list_any (is_one_of words) (runs_of others)
run_other words rest [] others split other = ap (list_any (is_one_of words)) split
run_other words rest (b ∷ bs) others split other = ap (list_any (is_one_of words)) split ∙ rw other refl

-- the run at the front is one of them
pub run_found : (words : List (List ℕ)) → AllByRecursion IsNoNumber words → (rest run others : List ℕ) → runs_of rest ≡ run_before run (runs_of others) → is_one_of words run ≡ true → list_any (is_one_of words) (runs_of rest) ≡ true
run_found words all rest [] others split found = absurd (differ (is_one_of words []) found (nothing words all))
run_found words all rest (b ∷ bs) others split found = ap (list_any (is_one_of words)) split ∙ rw found refl

-- no run is left
pub runs_ended : (words : List (List ℕ)) (rest : List ℕ) → length rest ≡ 0 → list_any (is_one_of words) (runs_of rest) ≡ false
unfolding runs_of
runs_ended words [] none = refl
runs_ended words (b ∷ bs) none = absurd (omega arith)
