-- What can be written is read again.
use Rattle.std.proofs.Common.{◌≡◌, ◌≢◌, ℕ, ◌<◌, ◌≤◌, ◌^◌, Bool, true, false, eqb, leb, ◌&&◌, ◌||◌, List, [], ◌∷◌, ◌++◌, map, refl, ◌∙◌, arith}
use Rattle.std.specs.Prelude.{Option, Some, codes, decimal}
use Rattle.std.specs.Str.{all_ascii_digits}
use Rattle.std.specs.List.{AllByRecursion}
use Rattle.std.proofs.lemmas.Bool.{leb-true, le-leb, ne_eqb}
use Rattle.std.proofs.lemmas.Fmt.{digits_decimal}
use Rattle.ind_base.proofs.Numerals.{num_of-decimal}
use Rattle.line_text.specs.Bytes.{all_plain, is_plain}
use Rattle.line_text.specs.Tokens.{is_digit}
use Rattle.ground_clauses.proofs.Lists.{each_append, each_weaker}
use Rattle.line_text.proofs.Guards.{and_true}
use Rattle.line_text.proofs.Spelling.{own}
use Rattle.ground_clauses.specs.declared.clauses.Lit.{Lit}
use Rattle.ground_clauses.specs.declared.clauses.Step.{Step}
use Rattle.spec_model.specs.declared.plan.Pair.{Pair}
use Rattle.certificate_lines.specs.declared.line.KindLine.{KindLine}
use Rattle.certificate_lines.specs.declared.line.TextLine.{TextLine}
use Rattle.certificate_lines.specs.declared.line.TextLine.TheVariants as lines
use Rattle.certificate_lines.specs.Words.{behind, spaced, cut_at, cut_words, is_byte, is_semicolon}
use Rattle.certificate_lines.specs.Forms.{alone, case_behind, case_form, each, ended, form, kind_form, line_of, lit_of, number_at, number_of, pair_of, plan_form, refuted_form, sep_form, separated, step_form, word_at}
use Rattle.certificate_lines.specs.Texts.{IsNeat, IsReadAgain, IsSeen, IsSmall, IsSpelt, KindSpelt, StepSpelt, kind_words, line_text, lit_word, pair_word, step_words, words_said}
use Rattle.certificate_lines.proofs.Back.{sign_byte}
use Rattle.certificate_lines.proofs.Cuts.{IsWhole, cut_again, words_again}

-- ---- bytes of words

letter : (b : ℕ) → 33 ≤ b → b ≤ 126 → IsSeen b
letter b low high = (low, high)

plan_word : IsNeat (codes "plan")
plan_word = (letter 112 (omega arith) (omega arith), (letter 108 (omega arith) (omega arith), (letter 97 (omega arith) (omega arith), (letter 110 (omega arith) (omega arith), tt))))

lock_word : IsNeat (codes "lock")
lock_word = (letter 108 (omega arith) (omega arith), (letter 111 (omega arith) (omega arith), (letter 99 (omega arith) (omega arith), (letter 107 (omega arith) (omega arith), tt))))

part_word : IsNeat (codes "part")
part_word = (letter 112 (omega arith) (omega arith), (letter 97 (omega arith) (omega arith), (letter 114 (omega arith) (omega arith), (letter 116 (omega arith) (omega arith), tt))))

certificate_word : IsNeat (codes "certificate")
certificate_word = (letter 99 (omega arith) (omega arith), (letter 101 (omega arith) (omega arith), (letter 114 (omega arith) (omega arith), (letter 116 (omega arith) (omega arith), (letter 105 (omega arith) (omega arith), (letter 102 (omega arith) (omega arith), (letter 105 (omega arith) (omega arith), (letter 99 (omega arith) (omega arith), (letter 97 (omega arith) (omega arith), (letter 116 (omega arith) (omega arith), (letter 101 (omega arith) (omega arith), tt)))))))))))

case_word : IsNeat (codes "case")
case_word = (letter 99 (omega arith) (omega arith), (letter 97 (omega arith) (omega arith), (letter 115 (omega arith) (omega arith), (letter 101 (omega arith) (omega arith), tt))))

sep_word : IsNeat (codes "sep")
sep_word = (letter 115 (omega arith) (omega arith), (letter 101 (omega arith) (omega arith), (letter 112 (omega arith) (omega arith), tt)))

refuted_word : IsNeat (codes "refuted")
refuted_word = (letter 114 (omega arith) (omega arith), (letter 101 (omega arith) (omega arith), (letter 102 (omega arith) (omega arith), (letter 117 (omega arith) (omega arith), (letter 116 (omega arith) (omega arith), (letter 101 (omega arith) (omega arith), (letter 100 (omega arith) (omega arith), tt)))))))

step_word : IsNeat (codes "step")
step_word = (letter 115 (omega arith) (omega arith), (letter 116 (omega arith) (omega arith), (letter 101 (omega arith) (omega arith), (letter 112 (omega arith) (omega arith), tt))))

end_word : IsNeat (codes "end")
end_word = (letter 101 (omega arith) (omega arith), (letter 110 (omega arith) (omega arith), (letter 100 (omega arith) (omega arith), tt)))

-- digits stand between 48 and 57
digits_between : (ds : List ℕ) → all_ascii_digits ds ≡ true → AllByRecursion (λ b. (48 ≤ b) × (b ≤ 57)) ds
digits_between [] e = tt
digits_between (d ∷ ds) e =
    let h = and_true (is_digit d) (all_ascii_digits ds) e in
    let k = and_true (leb 48 d) (leb d 57) h.0 in
    ((leb-true 48 d k.0, leb-true d 57 k.1), digits_between ds h.1)

small_size : (n : ℕ) → IsSmall n → n < 2 ^ 64
small_size n small = omega (arith, small)

digits_of : (n : ℕ) → IsSmall n → AllByRecursion (λ b. (48 ≤ b) × (b ≤ 57)) (decimal n)
digits_of n small = digits_between (decimal n) (digits_decimal own n (small_size n small))

number_neat : (n : ℕ) → IsSmall n → IsNeat (decimal n)
number_neat n small = each_weaker (λ (b : ℕ). (48 ≤ b) × (b ≤ 57)) IsSeen (decimal n) seen (digits_of n small)
  where
    seen : (b : ℕ) → (48 ≤ b) × (b ≤ 57) → IsSeen b
    seen b h = let low = h.0 in let high = h.1 in (omega (arith, low), omega (arith, high))

lit_neat : (x : Lit) → IsSmall x.var → IsNeat (lit_word x)
lit_neat x small = (sign x.yes, number_neat x.var small)
  where
    sign : (s : Bool) → IsSeen (sign_byte s)
    sign true = letter 43 (omega arith) (omega arith)
    sign false = letter 45 (omega arith) (omega arith)

pair_neat : (p : Pair) → IsSmall p.a × IsSmall p.b → IsNeat (pair_word p)
pair_neat p small = each_append IsSeen (decimal p.a) (61 ∷ decimal p.b) (number_neat p.a small.0) (letter 61 (omega arith) (omega arith), number_neat p.b small.1)

all_neat : {A : Type 0} → (P : A → Type 0) (text : A → List ℕ) → ((x : A) → P x → IsNeat (text x)) → (xs : List A) → AllByRecursion P xs → AllByRecursion IsNeat (map text xs)
all_neat P text neat [] h = tt
all_neat P text neat (x ∷ xs) h = (neat x h.0, all_neat P text neat xs h.1)

kind_neat : (k : KindLine) → KindSpelt k → AllByRecursion IsNeat (kind_words k)
kind_neat k s = (number_neat k.number s.number, (s.first, (s.second, all_neat (λ (p : Pair). IsSmall p.a × IsSmall p.b) pair_word pair_neat k.key s.key)))

step_neat : (s : Step) → StepSpelt s → AllByRecursion IsNeat (step_words s)
step_neat s h =
    each_append IsNeat (map lit_word s.lits) (codes ";" ∷ map decimal s.hints) (all_neat (λ (x : Lit). IsSmall x.var) lit_word lit_neat s.lits h.lits)
    ((letter 59 (omega arith) (omega arith), tt), all_neat IsSmall decimal number_neat s.hints h.hints)

words_neat : (line : TextLine) → IsSpelt line → AllByRecursion IsNeat (words_said line)
words_neat lines.Plan s = (plan_word, tt)
words_neat (lines.Lock k) s = (lock_word, kind_neat k s)
words_neat (lines.Part k) s = (part_word, kind_neat k s)
words_neat lines.Certificate s = (certificate_word, tt)
words_neat (lines.SepLock case lock) s = (case_word, (number_neat case s.0, (sep_word, (lock_word, (number_neat lock s.1, tt)))))
words_neat (lines.SepPart case part) s = (case_word, (number_neat case s.0, (sep_word, (part_word, (number_neat part s.1, tt)))))
words_neat (lines.Refuted case count) s = (case_word, (number_neat case s.0, (refuted_word, (number_neat count s.1, tt))))
words_neat (lines.Step s) h = (step_word, step_neat s h)
words_neat lines.End s = (end_word, tt)

neat_whole : (w : List ℕ) → IsNeat w → IsWhole w
neat_whole w h = each_weaker IsSeen (λ (b : ℕ). b ≢ 32) w (λ b seen. above b seen.0) h
  where
    above : (b : ℕ) → 33 ≤ b → b ≢ 32
    above b low e = omega (arith, low, e)

-- ---- words

number_again : (n : ℕ) → IsSmall n → number_of (decimal n) ≡ Some n
unfolding number_of
number_again n small = rw (num_of-decimal n (small_size n small)) (rw (le-leb n 4294967295 small) refl)

lit_again : (x : Lit) → IsSmall x.var → lit_of (lit_word x) ≡ Some x
unfolding lit_of
lit_again x small = signed x.yes
  where
    signed : (s : Bool) → lit_of (sign_byte s ∷ decimal x.var) ≡ Some (record { var = x.var; yes = s })
    signed true = rw (number_again x.var small) refl
    signed false = rw (number_again x.var small) refl

pair_again : (p : Pair) → IsSmall p.a × IsSmall p.b → pair_of (pair_word p) ≡ Some p
unfolding pair_of cut_at
pair_again p small =
    let cut_here = cut_again (is_byte 61) (decimal p.a) 61 (decimal p.b) (others (decimal p.a) (digits_of p.a small.0)) refl in
    rw (cut_here, number_again p.a small.0, number_again p.b small.1) refl
  where
    differ : (d : ℕ) → d ≤ 57 → d ≢ 61
    differ d high e = omega (arith, high, e)

    others : (ds : List ℕ) → AllByRecursion (λ b. (48 ≤ b) × (b ≤ 57)) ds → AllByRecursion (λ b. is_byte 61 b ≡ false) ds
    others [] h = tt
    others (d ∷ ds) h = (ne_eqb d 61 (differ d h.0.1), others ds h.1)

each_again : {A : Type 0} → (P : A → Type 0) (read : List ℕ → Option A) (text : A → List ℕ) → ((x : A) → P x → read (text x) ≡ Some x) → (xs : List A) → AllByRecursion P xs → each read (map text xs) ≡ Some xs
each_again P read text again [] h = refl
each_again P read text again (x ∷ xs) h = rw (again x h.0, each_again P read text again xs h.1) refl

number_at_again : (n : ℕ) (ws : List (List ℕ)) → IsSmall n → number_at (decimal n ∷ ws) ≡ Some (n, ws)
unfolding number_at word_at
number_at_again n ws small = rw (number_again n small) refl

-- ---- lines

kind_again : (k : KindLine) → KindSpelt k → kind_form (kind_words k) ≡ Some k
unfolding kind_form word_at
kind_again k s =
    rw (number_at_again k.number (k.first ∷ k.second ∷ map pair_word k.key) s.number, each_again (λ (p : Pair). IsSmall p.a × IsSmall p.b) pair_of pair_word pair_again k.key s.key) refl

no_mark : (xs : List Lit) → AllByRecursion (λ w. is_semicolon w ≡ false) (map lit_word xs)
no_mark [] = tt
no_mark (x ∷ xs) = (signed x.yes, no_mark xs)
  where
    signed : (s : Bool) → is_semicolon (sign_byte s ∷ decimal x.var) ≡ false
    signed true = refl
    signed false = refl

step_again : (s : Step) → StepSpelt s → step_form (step_words s) ≡ Some s
unfolding step_form cut_words
step_again s h =
    let here = cut_again is_semicolon (map lit_word s.lits) (codes ";") (map decimal s.hints) (no_mark s.lits) refl in
    rw (here, each_again (λ (x : Lit). IsSmall x.var) lit_of lit_word lit_again s.lits h.lits, each_again IsSmall number_of decimal number_again s.hints h.hints) refl

sep_again : (case place : ℕ) (kind : List ℕ) → IsSmall place → sep_form case (kind ∷ decimal place ∷ []) ≡ separated case kind place
unfolding sep_form word_at ended
sep_again case place kind small = rw (number_at_again place [] small) refl

counted_again : (case count : ℕ) → IsSmall count → refuted_form case (decimal count ∷ []) ≡ Some (lines.Refuted case count)
unfolding refuted_form ended
counted_again case count small = rw (number_at_again count [] small) refl

case_again : (case : ℕ) (verb : List ℕ) (ws : List (List ℕ)) → IsSmall case → case_form (decimal case ∷ verb ∷ ws) ≡ case_behind case verb ws
unfolding case_form word_at
case_again case verb ws small = rw (number_at_again case (verb ∷ ws) small) refl

-- the form of the first word reads those behind it
read_words : (w : List ℕ) (ws : List (List ℕ)) (line : TextLine) → AllByRecursion IsNeat (w ∷ ws) → form w ws ≡ Some line → line_of (w ++ behind ws) ≡ Some line
unfolding line_of word_at
read_words w ws line neat is = rw (words_again w ws (neat_whole w neat.0) (each_weaker IsNeat IsWhole ws neat_whole neat.1)) is

-- a line that can be written is read again from its text
pub line_again : IsReadAgain
unfolding form plan_form alone ended
line_again lines.Plan s = read_words (codes "plan") [] lines.Plan (words_neat lines.Plan s) refl
line_again (lines.Lock k) s = read_words (codes "lock") (kind_words k) (lines.Lock k) (words_neat (lines.Lock k) s) (rw (kind_again k s) refl)
line_again (lines.Part k) s = read_words (codes "part") (kind_words k) (lines.Part k) (words_neat (lines.Part k) s) (rw (kind_again k s) refl)
line_again lines.Certificate s = read_words (codes "certificate") [] lines.Certificate (words_neat lines.Certificate s) refl
line_again (lines.SepLock case lock) s =
    read_words (codes "case") (decimal case ∷ codes "sep" ∷ codes "lock" ∷ decimal lock ∷ []) (lines.SepLock case lock) (words_neat (lines.SepLock case lock) s)
    (case_again case (codes "sep") (codes "lock" ∷ decimal lock ∷ []) s.0 ∙ sep_again case lock (codes "lock") s.1)
line_again (lines.SepPart case part) s =
    read_words (codes "case") (decimal case ∷ codes "sep" ∷ codes "part" ∷ decimal part ∷ []) (lines.SepPart case part) (words_neat (lines.SepPart case part) s)
    (case_again case (codes "sep") (codes "part" ∷ decimal part ∷ []) s.0 ∙ sep_again case part (codes "part") s.1)
line_again (lines.Refuted case count) s =
    read_words (codes "case") (decimal case ∷ codes "refuted" ∷ decimal count ∷ []) (lines.Refuted case count) (words_neat (lines.Refuted case count) s)
    (case_again case (codes "refuted") (decimal count ∷ []) s.0 ∙ counted_again case count s.1)
line_again (lines.Step s) h = read_words (codes "step") (step_words s) (lines.Step s) (words_neat (lines.Step s) h) (rw (step_again s h) refl)
line_again lines.End s = read_words (codes "end") [] lines.End (words_neat lines.End s) refl

-- ---- bytes of lines

seen_plain : (b : ℕ) → IsSeen b → is_plain b ≡ true
seen_plain b h =
    let low = h.0 in
    rw (le-leb 32 b (omega (arith, low)), le-leb b 126 h.1) (either (eqb b 9))
  where
    either : (t : Bool) → (t || (true && true)) ≡ true
    either true = refl
    either false = refl

plain_more : (w rest : List ℕ) → IsNeat w → all_plain rest ≡ true → all_plain (w ++ rest) ≡ true
plain_more [] rest h e = e
plain_more (b ∷ w) rest h e = rw (seen_plain b h.0, plain_more w rest h.1 e) refl

plain_behind : (ws : List (List ℕ)) → AllByRecursion IsNeat ws → all_plain (behind ws) ≡ true
plain_behind [] h = refl
plain_behind (w ∷ ws) h = plain_more w (behind ws) h.0 (plain_behind ws h.1)

plain_spaced : (ws : List (List ℕ)) → AllByRecursion IsNeat ws → all_plain (spaced ws) ≡ true
plain_spaced [] h = refl
plain_spaced (w ∷ ws) h = plain_more w (behind ws) h.0 (plain_behind ws h.1)

-- the text of a line has plain bytes alone
pub line_plain : (line : TextLine) → IsSpelt line → all_plain (line_text line) ≡ true
line_plain line s = plain_spaced (words_said line) (words_neat line s)
