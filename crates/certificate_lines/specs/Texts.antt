-- How each line of a plan and a certificate is written.
use Rattle.std.specs.Prelude.{◌≡◌, ◌≤◌, ℕ, if◌then◌else◌, List, [], ◌∷◌, ◌++◌, map, Some, codes, decimal}
use Rattle.std.specs.List.{AllByRecursion}
use Rattle.ground_clauses.specs.declared.clauses.Lit.{Lit}
use Rattle.ground_clauses.specs.declared.clauses.Step.{Step}
use Rattle.spec_model.specs.declared.plan.Pair.{Pair}
use Rattle.certificate_lines.specs.declared.line.KindLine.{KindLine}
use Rattle.certificate_lines.specs.declared.line.TextLine.{TextLine}
use Rattle.certificate_lines.specs.declared.line.TextLine.TheVariants as lines
use Rattle.certificate_lines.specs.Words.{spaced}
use Rattle.certificate_lines.specs.Forms.{line_of}

abbrev pub pair_word : Pair → List ℕ
pair_word p = decimal p.a ++ 61 ∷ decimal p.b

abbrev pub lit_word : Lit → List ℕ
lit_word x = (if x.yes then 43 else 45) ∷ decimal x.var

abbrev pub kind_words : KindLine → List (List ℕ)
kind_words k = decimal k.number ∷ k.first ∷ k.second ∷ map pair_word k.key

abbrev pub step_words : Step → List (List ℕ)
step_words s = map lit_word s.lits ++ codes ";" ∷ map decimal s.hints

-- the words of a line
abbrev pub words_said : TextLine → List (List ℕ)
words_said lines.Plan = codes "plan" ∷ []
words_said (lines.Lock k) = codes "lock" ∷ kind_words k
words_said (lines.Part k) = codes "part" ∷ kind_words k
words_said lines.Certificate = codes "certificate" ∷ []
words_said (lines.SepLock case lock) = codes "case" ∷ decimal case ∷ codes "sep" ∷ codes "lock" ∷ decimal lock ∷ []
words_said (lines.SepPart case part) = codes "case" ∷ decimal case ∷ codes "sep" ∷ codes "part" ∷ decimal part ∷ []
words_said (lines.Refuted case count) = codes "case" ∷ decimal case ∷ codes "refuted" ∷ decimal count ∷ []
words_said (lines.Step s) = codes "step" ∷ step_words s
words_said lines.End = codes "end" ∷ []

-- the text of a line, without its end
abbrev pub line_text : TextLine → List ℕ
line_text line = spaced (words_said line)

-- ---- what can be written

abbrev pub IsSmall : ℕ → Type 0
IsSmall n = n ≤ 4294967295

-- a byte that can be seen
abbrev pub IsSeen : ℕ → Type 0
IsSeen b = (33 ≤ b) × (b ≤ 126)

abbrev pub IsNeat : List ℕ → Type 0
IsNeat w = AllByRecursion IsSeen w

pub record KindSpelt (k : KindLine) : Type 0 where
  pub number : IsSmall k.number
  pub first : IsNeat k.first
  pub second : IsNeat k.second
  pub key : AllByRecursion (λ p. IsSmall p.a × IsSmall p.b) k.key

pub record StepSpelt (s : Step) : Type 0 where
  pub lits : AllByRecursion (λ x. IsSmall x.var) s.lits
  pub hints : AllByRecursion IsSmall s.hints

-- its numbers have at most 32 bits, and its names have bytes that can be seen
abbrev pub IsSpelt : TextLine → Type 0
IsSpelt lines.Plan = Unit {0}
IsSpelt (lines.Lock k) = KindSpelt k
IsSpelt (lines.Part k) = KindSpelt k
IsSpelt lines.Certificate = Unit {0}
IsSpelt (lines.SepLock case lock) = IsSmall case × IsSmall lock
IsSpelt (lines.SepPart case part) = IsSmall case × IsSmall part
IsSpelt (lines.Refuted case count) = IsSmall case × IsSmall count
IsSpelt (lines.Step s) = StepSpelt s
IsSpelt lines.End = Unit {0}

-- a line that can be written is read again from its text
abbrev pub IsReadAgain : Type 0
IsReadAgain = (line : TextLine) → IsSpelt line → line_of (line_text line) ≡ Some line
