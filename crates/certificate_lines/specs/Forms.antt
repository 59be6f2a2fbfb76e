-- The form of each line of a plan and a certificate.
use Rattle.std.specs.Prelude.{ℕ, Bool, true, false, List, [], ◌∷◌, Option, Some, None, if◌then◌else◌, ◌==◌, nat_le, codes}
use Rattle.std.specs.Str.{bytes_eq}
use Rattle.ind_base.specs.Numbers.{num_of}
use Rattle.line_text.specs.Reads.{◌>>=◌}
use Rattle.ground_clauses.specs.declared.clauses.Lit.{Lit}
use Rattle.ground_clauses.specs.declared.clauses.Step.{Step}
use Rattle.spec_model.specs.declared.plan.Pair.{Pair}
use Rattle.certificate_lines.specs.declared.line.KindLine.{KindLine}
use Rattle.certificate_lines.specs.declared.line.TextLine.{TextLine}
use Rattle.certificate_lines.specs.declared.line.TextLine.TheVariants as lines
use Rattle.certificate_lines.specs.Words.{words_of, cut_at, cut_words}

-- ---- words

abbrev pub narrow : Option ℕ → Option ℕ
narrow None = None
narrow (Some n) = if nat_le n 4294967295 then Some n else None

-- a canonical number of at most 32 bits
unfoldable pub number_of : List ℕ → Option ℕ
number_of w = narrow (num_of w)

-- `+` or `-`
abbrev pub sign_of : ℕ → Option Bool
sign_of b = if b == 43 then Some true else (if b == 45 then Some false else None)

-- `+V` or `-V`
unfoldable pub lit_of : List ℕ → Option Lit
lit_of [] = None
lit_of (b ∷ bs) = do
  sign ← sign_of b
  var ← number_of bs
  Some (record { var = var; yes = sign })

-- `I=J`
unfoldable pub pair_of : List ℕ → Option Pair
pair_of w = do
  sides ← cut_at 61 w
  i ← number_of sides.0
  j ← number_of sides.1
  Some (record { a = i; b = j })

-- the first word, and those behind it
unfoldable pub word_at : List (List ℕ) → Option (List ℕ × List (List ℕ))
word_at [] = None
word_at (w ∷ ws) = Some (w, ws)

-- a number, and the words behind it
unfoldable pub number_at : List (List ℕ) → Option (ℕ × List (List ℕ))
number_at ws = do
  word ← word_at ws
  number ← number_of word.0
  Some (number, word.1)

-- nothing follows
unfoldable pub ended : List (List ℕ) → Option (Unit {0})
ended [] = Some tt
ended (w ∷ ws) = None

-- each of the words read
abbrev pub each : {A : Type 0} → (List ℕ → Option A) → List (List ℕ) → Option (List A)
each read [] = Some []
each read (w ∷ ws) = read w >>= λ x. (each read ws >>= λ xs. Some (x ∷ xs))

-- ---- lines

-- K OP OP I=J I=J
unfoldable pub kind_form : List (List ℕ) → Option KindLine
kind_form ws = do
  number ← number_at ws
  first ← word_at number.1
  second ← word_at first.1
  key ← each pair_of second.1
  Some (record { number = number.0; first = first.0; second = second.0; key = key })

abbrev pub separated : ℕ → List ℕ → ℕ → Option TextLine
separated case kind place =
    if bytes_eq kind (codes "lock") then Some (lines.SepLock case place)
    else (if bytes_eq kind (codes "part") then Some (lines.SepPart case place) else None)

-- lock K or part K, of a case
unfoldable pub sep_form : ℕ → List (List ℕ) → Option TextLine
sep_form case ws = do
  kind ← word_at ws
  place ← number_at kind.1
  e ← ended place.1
  separated case kind.0 place.0

-- COUNT, of a case
unfoldable pub refuted_form : ℕ → List (List ℕ) → Option TextLine
refuted_form case ws = do
  count ← number_at ws
  e ← ended count.1
  Some (lines.Refuted case count.0)

abbrev pub case_behind : ℕ → List ℕ → List (List ℕ) → Option TextLine
case_behind case verb ws =
    if bytes_eq verb (codes "sep") then sep_form case ws
    else (if bytes_eq verb (codes "refuted") then refuted_form case ws else None)

-- C sep lock K, C sep part K or C refuted COUNT
unfoldable pub case_form : List (List ℕ) → Option TextLine
case_form ws = do
  case ← number_at ws
  verb ← word_at case.1
  case_behind case.0 verb.0 verb.1

-- the literals before the first `;`, and the words behind it
unfoldable pub lits_before : List (List ℕ) → Option (List Lit × List (List ℕ))
lits_before ws = do
  sides ← cut_words ws
  lits ← each lit_of sides.0
  Some (lits, sides.1)

-- LIT LIT ; HINT HINT
unfoldable pub step_form : List (List ℕ) → Option Step
step_form ws = do
  sides ← cut_words ws
  lits ← each lit_of sides.0
  hints ← each number_of sides.1
  Some (record { lits = lits; hints = hints })

-- a line of one word
unfoldable pub alone : TextLine → List (List ℕ) → Option TextLine
alone line ws = do
  e ← ended ws
  Some line

-- lock, part, plan and certificate
unfoldable pub plan_form : List ℕ → List (List ℕ) → Option TextLine
plan_form word ws =
    if bytes_eq word (codes "lock") then (kind_form ws >>= λ k. Some (lines.Lock k))
    else (if bytes_eq word (codes "part") then (kind_form ws >>= λ k. Some (lines.Part k))
    else (if bytes_eq word (codes "plan") then alone lines.Plan ws
    else (if bytes_eq word (codes "certificate") then alone lines.Certificate ws else None)))

-- step, case and end, and the lines of a plan
unfoldable pub form : List ℕ → List (List ℕ) → Option TextLine
form word ws =
    if bytes_eq word (codes "step") then (step_form ws >>= λ s. Some (lines.Step s))
    else (if bytes_eq word (codes "case") then case_form ws
    else (if bytes_eq word (codes "end") then alone lines.End ws else plan_form word ws))

-- the line that these bytes are
unfoldable pub line_of : List ℕ → Option TextLine
line_of line = do
  word ← word_at (words_of line)
  form word.0 word.1
