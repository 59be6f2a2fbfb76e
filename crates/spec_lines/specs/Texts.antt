-- The canonical text of each line of a specification, without its end.
use Rattle.std.specs.Prelude.{ℕ, List, [], ◌∷◌, ◌++◌, Option, Some, None, Bool, true, false, codes, decimal}
use Rattle.line_text.specs.Writing.{listing_text}
use Rattle.spec_model.specs.declared.spec.Rule.{Rule}
use Rattle.spec_model.specs.declared.spec.Rule.TheVariants as rules
use Rattle.spec_lines.specs.declared.item.NamedVar.{NamedVar}
use Rattle.spec_lines.specs.declared.item.NamedParam.{NamedParam}
use Rattle.spec_lines.specs.declared.item.NamedTerm.{NamedTerm}
use Rattle.spec_lines.specs.declared.item.NamedTerm.TheVariants as terms
use Rattle.spec_lines.specs.declared.line.NamedLiteral.{NamedLiteral}
use Rattle.spec_lines.specs.declared.line.NamedLiteral.TheVariants as literals
use Rattle.spec_lines.specs.declared.line.SpecLine.{SpecLine}
use Rattle.spec_lines.specs.declared.line.SpecLine.TheVariants as lines

-- names in brackets
abbrev pub names_text : List (List ℕ) → List ℕ
names_text names = listing_text (λ w. w) names

-- a word where it is said, with a space before it
abbrev pub flag_text : Bool → List ℕ → List ℕ
flag_text true word = word
flag_text false word = []

-- VAR:SORT
abbrev pub var_text : NamedVar → List ℕ
var_text v = v.name ++ (58 ∷ v.sort)

-- PAR:SORT, or PAR:SORT interval
abbrev pub param_text : NamedParam → List ℕ
param_text p = p.name ++ (58 ∷ (p.sort ++ flag_text p.interval (codes " interval")))

-- PAR, or *
abbrev pub term_text : NamedTerm → List ℕ
term_text (terms.Param w) = w
term_text terms.Every = codes "*"

-- NAME(VAR,VAR), or VAR = VAR
abbrev pub literal_text : NamedLiteral → List ℕ
literal_text (literals.Atom pred vars) = pred ++ names_text vars
literal_text (literals.Equal left right) = left ++ (codes " = " ++ right)

-- literals behind the first one, each with this word before it
abbrev pub more_text : List ℕ → List NamedLiteral → List ℕ
more_text word [] = []
more_text word (x ∷ xs) = word ++ (literal_text x ++ more_text word xs)

-- literals with this word between them and a space before the first one
abbrev pub literals_text : List ℕ → List NamedLiteral → List ℕ
literals_text word [] = []
literals_text word (x ∷ xs) = codes " " ++ (literal_text x ++ more_text word xs)

abbrev pub rule_text : Rule → List ℕ
rule_text rules.AddWins = codes "add_wins"
rule_text rules.RemoveWins = codes "remove_wins"
rule_text rules.Locked = codes "locked"

-- a bound behind its word, where it is given
abbrev pub bound_text : List ℕ → Option ℕ → List ℕ
bound_text word None = []
bound_text word (Some n) = word ++ decimal n

abbrev pub sort_text : List ℕ → ℕ → List ℕ
sort_text name size = codes "sort " ++ (name ++ (codes " " ++ decimal size))

abbrev pub pred_text : List ℕ → List (List ℕ) → Rule → Bool → List ℕ
pred_text name sorts rule first = codes "pred " ++ (name ++ (names_text sorts ++ (codes " " ++ (rule_text rule ++ flag_text first (codes " true")))))

abbrev pub num_text : List ℕ → List (List ℕ) → ℕ → Option ℕ → Option ℕ → List ℕ
num_text name sorts init min max = codes "num " ++ (name ++ (names_text sorts ++ (codes " init " ++ (decimal init ++ (bound_text (codes " min ") min ++ bound_text (codes " max ") max)))))

abbrev pub clause_text : List NamedVar → List NamedLiteral → List NamedLiteral → Bool → List ℕ
clause_text vars premise conclusion mask =
    codes "clause " ++ (listing_text var_text vars ++ (literals_text (codes " and ") premise ++ (codes " =>" ++ (literals_text (codes " or ") conclusion ++ flag_text mask (codes " mask")))))

abbrev pub op_text : List ℕ → List NamedParam → List ℕ
op_text name params = codes "op " ++ (name ++ listing_text param_text params)

abbrev pub touch_text : Bool → List ℕ → List NamedTerm → List ℕ
touch_text true pred terms = codes "set " ++ (pred ++ listing_text term_text terms)
touch_text false pred terms = codes "clear " ++ (pred ++ listing_text term_text terms)

abbrev pub change_text : Bool → ℕ → List ℕ → List (List ℕ) → List ℕ
change_text true amount num params = codes "add " ++ (decimal amount ++ (codes " " ++ (num ++ names_text params)))
change_text false amount num params = codes "sub " ++ (decimal amount ++ (codes " " ++ (num ++ names_text params)))

abbrev pub free_text : List ℕ → List ℕ → List ℕ
free_text first second = codes "free " ++ (first ++ (codes " " ++ second))

-- the canonical text of a line, without its end
unfoldable pub line_text : SpecLine → List ℕ
line_text (lines.Sort name size) = sort_text name size
line_text (lines.Pred name sorts rule first) = pred_text name sorts rule first
line_text (lines.Num name sorts init min max) = num_text name sorts init min max
line_text (lines.Clause vars premise conclusion mask) = clause_text vars premise conclusion mask
line_text (lines.Op name params) = op_text name params
line_text (lines.Touch truth pred terms) = touch_text truth pred terms
line_text (lines.Change raises amount num params) = change_text raises amount num params
line_text (lines.Free first second) = free_text first second
