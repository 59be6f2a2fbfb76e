-- Line after line.
use Rattle.std.proofs.Common.{◌≡◌, ℕ, ◌+◌, List, [], ◌∷◌, length, refl, sym, subst, ◌∙◌, arith}
use Rattle.std.specs.Prelude.{Result, Ok, Err}
use Rattle.std.specs.List.{AllByRecursion}
use Rattle.line_text.specs.declared.cause.Cause.{Cause}
use Rattle.line_text.specs.declared.cause.LineError.{LineError}
use Rattle.line_text.specs.declared.cause.LineError.TheVariants as line_errors
use Rattle.line_text.specs.Causes.{Fails}
use Rattle.line_text.specs.Texts.{numbered, go_on, read_lines, GivesText, at_line}

-- a line is refused
pub read-refused : {D X : Type 0} → (e : LineError) (number : ℕ) (takes : D → List ℕ → Result D Cause) (ends : D → Result D Cause) (d : D) (line : List ℕ) (rest lines : List (List ℕ)) (view : X → D) (total : Result D (ℕ × Cause))
    → lines ≡ line ∷ rest → Fails e (takes d line) → read_lines takes ends number d lines ≡ total → GivesText view (Err (at_line number e)) total
unfolding read_lines
read-refused line_errors.Memory number takes ends d line rest lines view total split is so_far = tt
read-refused (line_errors.Refused cause) number takes ends d line rest lines view total split is so_far = sym so_far ∙ rw (split, is) refl

-- a line is taken
pub read-taken : {D : Type 0} → (number : ℕ) (takes : D → List ℕ → Result D Cause) (ends : D → Result D Cause) (d e : D) (line : List ℕ) (rest lines : List (List ℕ)) (total : Result D (ℕ × Cause))
    → lines ≡ line ∷ rest → takes d line ≡ Ok e → read_lines takes ends number d lines ≡ total → read_lines takes ends (number + 1) e rest ≡ total
unfolding read_lines
read-taken number takes ends d e line rest lines total split is so_far = rw (split, is) at so_far

-- no line is left
pub read-ended : {D : Type 0} → (number : ℕ) (takes : D → List ℕ → Result D Cause) (ends : D → Result D Cause) (d : D) (lines : List (List ℕ)) (total : Result D (ℕ × Cause))
    → length lines ≡ 0 → read_lines takes ends number d lines ≡ total → numbered number (ends d) ≡ total
unfolding read_lines
read-ended number takes ends d [] total none so_far = so_far
read-ended number takes ends d (line ∷ lines) total none so_far = absurd (omega arith)

last : {D : Type 0} → (P : D → Type 0) → (ends : D → Result D Cause) → ((d e : D) → P d → ends d ≡ Ok e → P e) → (number : ℕ) (d e : D) (r : Result D Cause) → ends d ≡ r → P d → numbered number r ≡ Ok e → P e
last P ends keeps number d e (Err c) end h is = absurd cc
last {D} P ends keeps number d e (Ok f) end h is =
    let same : f ≡ e = cc in
    subst P same (keeps d f h end)

next : {D : Type 0} → (P : D → Type 0) → (takes : D → List ℕ → Result D Cause) → (line : List ℕ) → ((d e : D) → P d → takes d line ≡ Ok e → P e) → (number : ℕ) (d e : D) (behind : D → Result D (ℕ × Cause)) (r : Result D Cause)
    → takes d line ≡ r → P d → go_on number r behind ≡ Ok e → ((f : D) → P f → behind f ≡ Ok e → P e) → P e
next P takes line keeps number d e behind (Err c) taken h is rest = absurd cc
next P takes line keeps number d e behind (Ok f) taken h is rest = rest f (keeps d f h taken) is

-- what holds at first and is kept by each line, of which something is known, and at the end, holds of what is read
pub read_kept_with : {D : Type 0} → (R : List ℕ → Type 0) (P : D → Type 0) → (takes : D → List ℕ → Result D Cause) (ends : D → Result D Cause) → ((d e : D) (line : List ℕ) → R line → P d → takes d line ≡ Ok e → P e) → ((d e : D) → P d → ends d ≡ Ok e → P e)
    → (lines : List (List ℕ)) (number : ℕ) (d e : D) → AllByRecursion R lines → P d → read_lines takes ends number d lines ≡ Ok e → P e
unfolding read_lines
read_kept_with R P takes ends keeps end [] number d e all h is = last P ends end number d e (ends d) refl h is
read_kept_with R P takes ends keeps end (line ∷ lines) number d e all h is =
    next P takes line (λ f g k taken. keeps f g line all.0 k taken) number d e (λ f. read_lines takes ends (number + 1) f lines) (takes d line) refl h is (λ f k more. read_kept_with R P takes ends keeps end lines (number + 1) f e all.1 k more)

abbrev Anything : List ℕ → Type 0
Anything line = Unit {0}

any_lines : (lines : List (List ℕ)) → AllByRecursion Anything lines
any_lines [] = tt
any_lines (line ∷ lines) = (tt, any_lines lines)

-- the same where nothing is known of the lines
pub read_kept : {D : Type 0} → (P : D → Type 0) → (takes : D → List ℕ → Result D Cause) (ends : D → Result D Cause) → ((d e : D) (line : List ℕ) → P d → takes d line ≡ Ok e → P e) → ((d e : D) → P d → ends d ≡ Ok e → P e)
    → (lines : List (List ℕ)) (number : ℕ) (d e : D) → P d → read_lines takes ends number d lines ≡ Ok e → P e
read_kept P takes ends keeps end lines number d e h is = read_kept_with Anything P takes ends (λ f g line known k taken. keeps f g line k taken) end lines number d e (any_lines lines) h is

taken_on : {D : Type 0} → (R : List ℕ → Type 0) (takes : D → List ℕ → Result D Cause) → ((d e : D) (line : List ℕ) → takes d line ≡ Ok e → R line) → (number : ℕ) (d e : D) (line : List ℕ) (lines : List (List ℕ)) (behind : D → Result D (ℕ × Cause)) (r : Result D Cause)
    → takes d line ≡ r → go_on number r behind ≡ Ok e → ((f : D) → behind f ≡ Ok e → AllByRecursion R lines) → AllByRecursion R (line ∷ lines)
taken_on R takes known number d e line lines behind (Err c) taken is rest = absurd cc
taken_on R takes known number d e line lines behind (Ok f) taken is rest = (known d f line taken, rest f is)

-- what is known of a line that is taken is known of every line of what is read
pub read_taken : {D : Type 0} → (R : List ℕ → Type 0) (takes : D → List ℕ → Result D Cause) (ends : D → Result D Cause) → ((d e : D) (line : List ℕ) → takes d line ≡ Ok e → R line) → (lines : List (List ℕ)) (number : ℕ) (d e : D) → read_lines takes ends number d lines ≡ Ok e → AllByRecursion R lines
unfolding read_lines
read_taken R takes ends known [] number d e is = tt
read_taken R takes ends known (line ∷ lines) number d e is =
    taken_on R takes known number d e line lines (λ f. read_lines takes ends (number + 1) f lines) (takes d line) refl is (λ f more. read_taken R takes ends known lines (number + 1) f e more)
