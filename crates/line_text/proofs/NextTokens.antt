-- The token that stands next.
use Rattle.std.proofs.Common.{◌≡◌, ◌≢◌, ℕ, ◌<◌, ◌≤◌, ◌^◌, Bool, true, false, eqb, ltb, leb, ◌&&◌, not, inl, inr, List, [], ◌∷◌, length, get_or, drop, refl, ap, ◌∙◌, arith}
use Rattle.std.specs.Prelude.{Some}
use Rattle.std.specs.Str.{all_ascii_digits}
use Rattle.std.specs.List.{list_all}
use Rattle.std.proofs.lemmas.Bool.{eqb-true, leb-true, ne_eqb, lt-ltb, le-leb}
use Rattle.ind_base.specs.Numbers.{value_after, is_canonical, num_of}
use Rattle.line_text.specs.declared.token.Token.TheVariants.{Word, Number, Mark as Symbol}
use Rattle.line_text.specs.Tokens.{is_word_byte, is_blank, is_digit, is_lower, starts_arrow, token_of_run, token_of_mark, tokens_of, number_token}
use Rattle.line_text.specs.Next.{IsNext, IsLine, is_neat}
use Rattle.line_text.specs.Texts.{line_tokens}
use Rattle.line_text.proofs.Again.{no_comment, plain_line}
use Rattle.line_text.proofs.Guards.{and_true}
use Rattle.line_text.proofs.Inverse.{tested}
use Rattle.line_text.proofs.Pieces.{blank_passed, mark_taken}
use Rattle.line_text.proofs.Spelling.{or_true, mark_fails, token_digits}

blank_kind : (b : ℕ) → is_blank b ≡ true → (is_word_byte b ≡ false) × (eqb b 61 ≡ false)
blank_kind b e = elim (or_true (eqb b 32) (eqb b 9) e) [ inl s ↦ rw (eqb-true b 32 s) (refl, refl) | inr t ↦ rw (eqb-true b 9 t) (refl, refl) ]

no_arrow : (bytes : List ℕ) → eqb (get_or bytes 0 0) 61 ≡ false → starts_arrow bytes ≡ false
no_arrow [] e = refl
no_arrow (b ∷ []) e = refl
no_arrow (b ∷ c ∷ bs) e = rw e refl

pub blank_behind : (bytes : List ℕ) → 0 < length bytes → is_blank (get_or bytes 0 0) ≡ true → tokens_of bytes ≡ tokens_of (drop 1 bytes)
blank_behind bytes some e =
    let k = blank_kind (get_or bytes 0 0) e in
    blank_passed bytes some k.0 (no_arrow bytes k.1) e

pub mark_stands : (c : ℕ) (bytes : List ℕ) → 0 < length bytes → get_or bytes 0 0 ≡ c → token_of_mark c ≡ Some (Symbol c) → c ≢ 61 → IsNext (Symbol c) bytes (drop 1 bytes)
mark_stands c bytes some first mark other =
    let found = (tested _ (Symbol c) (Symbol c) mark).0 in
    let no_word = mark_fails is_word_byte c refl refl refl refl refl refl refl found in
    let ink = mark_fails is_blank c refl refl refl refl refl refl refl found in
    let alone = no_arrow bytes (rw first (ne_eqb c 61 other)) in
    mark_taken (Symbol c) bytes some (rw first no_word) alone (rw first ink) (rw first mark)

num_is : (run : List ℕ) → is_canonical run ≡ true → value_after 0 run < 2 ^ 64 → num_of run ≡ Some (value_after 0 run)
num_is run canonical small = rw (canonical, lt-ltb (value_after 0 run) (2 ^ 64) small) refl

canonical_run : (run : List ℕ) → 0 < length run → all_ascii_digits run ≡ true → (eqb (get_or run 0 0) 48 && ltb 1 (length run)) ≡ false → is_canonical run ≡ true
canonical_run [] some digits e = absurd (omega arith)
canonical_run (c ∷ []) some digits e = digits
canonical_run (c ∷ d ∷ cs) some digits e = rw digits (first (eqb c 48) (rw (lt-ltb 1 (length (c ∷ d ∷ cs)) (omega arith)) at e))
  where
    first : (t : Bool) → (t && true) ≡ false → not t ≡ true
    first true e = absurd cc
    first false e = refl

pub number_stands : (run : List ℕ) (n : ℕ) → 0 < length run → (eqb (get_or run 0 0) 48 && ltb 1 (length run)) ≡ false → all_ascii_digits run ≡ true → value_after 0 run ≡ n → n ≤ 1000000000000 → token_of_run run ≡ Some (Number n)
number_stands run n some first digits value small =
    let canonical = canonical_run run some digits first in
    let bound : value_after 0 run < 2 ^ 64 = rw value (omega (arith, small)) in
    token_digits run digits some ∙ ap number_token (num_is run canonical bound) ∙ ap (λ (k : ℕ). number_token (Some k)) value

-- letters lie above digits
no_digit : (b : ℕ) → is_lower b ≡ true → is_digit b ≡ false
no_digit b lower = either (leb 48 b) (leb b 57) refl
  where
    either : (s t : Bool) → leb b 57 ≡ t → (s && t) ≡ false
    either false t e = refl
    either true false e = refl
    either true true e = absurd (omega (arith, leb-true b 57 e, leb-true 97 b (and_true (leb 97 b) (leb b 122) lower).0))

pub word_stands : (run : List ℕ) → 0 < length run → is_lower (get_or run 0 0) ≡ true → length run ≤ 32 → token_of_run run ≡ Some (Word run)
word_stands [] some lower short = absurd (omega arith)
word_stands (b ∷ bs) some lower short = rw (no_digit b lower, lower, le-leb (length (b ∷ bs)) 32 short) refl

pub neat_line : (bytes : List ℕ) → list_all is_neat bytes ≡ true → IsLine bytes
unfolding line_tokens
neat_line bytes neat = λ ts read small. rw (plain_line bytes neat, no_comment bytes neat, read, small) refl
