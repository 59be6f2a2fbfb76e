-- The form of each line of a specification, behind its line word.
use Rattle.std.specs.Prelude.{◌≡◌, ℕ, List, Option, Some, None, if◌then◌else◌, Bool, true, false, codes, Result, Ok, Err}
use Rattle.std.specs.Str.{bytes_eq}
use Rattle.line_text.specs.declared.token.Token.{Token}
use Rattle.line_text.specs.declared.cause.Cause.{Cause}
use Rattle.line_text.specs.declared.cause.Cause.TheVariants as causes
use Rattle.line_text.specs.declared.cause.FormError.{FormError}
use Rattle.line_text.specs.declared.cause.FormError.TheVariants as forms
use Rattle.line_text.specs.declared.cause.LineError.{LineError}
use Rattle.line_text.specs.declared.cause.LineError.TheVariants as errors
use Rattle.line_text.specs.Reads.{◌>>=◌}
use Rattle.line_text.specs.Forms.{after_word, flag_at, word_at, number_at, ended, list_at, name_item}
use Rattle.spec_model.specs.declared.spec.Rule.{Rule}
use Rattle.spec_model.specs.declared.spec.Rule.TheVariants as rules
use Rattle.spec_lines.specs.declared.line.SpecLine.{SpecLine}
use Rattle.spec_lines.specs.declared.line.SpecLine.TheVariants as lines
use Rattle.spec_lines.specs.Items.{var_item, param_item, term_item}
use Rattle.spec_lines.specs.Literals.{premise_at, conclusion_of, has_mask, without_mask}

-- sort NAME SIZE
unfoldable pub sort_form : List Token → Option SpecLine
sort_form ts = do
  name ← word_at ts
  size ← number_at name.1
  e ← ended size.1
  Some (lines.Sort name.0 size.0)

-- the rule of a predicate
abbrev pub rule_of : List ℕ → Option Rule
rule_of w =
    if bytes_eq w (codes "add_wins") then Some rules.AddWins
    else (if bytes_eq w (codes "remove_wins") then Some rules.RemoveWins
    else (if bytes_eq w (codes "locked") then Some rules.Locked else None))

-- pred NAME(SORT,SORT) RULE, or the same with ` true`
unfoldable pub pred_form : List Token → Option SpecLine
pred_form ts = do
  name ← word_at ts
  sorts ← list_at name_item name.1
  word ← word_at sorts.1
  rule ← rule_of word.0
  e ← ended (flag_at (codes "true") word.1).1
  Some (lines.Pred name.0 sorts.0 rule (flag_at (codes "true") word.1).0)

-- this word and a number, or neither
unfoldable pub bound_at : List ℕ → List Token → Option (Option ℕ × List Token)
bound_at word ts =
    if (flag_at word ts).0 then (number_at (flag_at word ts).1 >>= λ n. Some (Some n.0, n.1)) else Some (None, ts)

-- num NAME(SORT) init N, then ` min N` and ` max N`, each optional
unfoldable pub num_form : List Token → Option SpecLine
num_form ts = do
  name ← word_at ts
  sorts ← list_at name_item name.1
  behind ← after_word (codes "init") sorts.1
  init ← number_at behind
  min ← bound_at (codes "min") init.1
  max ← bound_at (codes "max") min.1
  e ← ended max.1
  Some (lines.Num name.0 sorts.0 init.0 min.0 max.0)

-- clause (VAR:SORT,VAR:SORT) LIT and LIT => LIT or LIT, then ` mask` optional
unfoldable pub clause_form : List Token → Option SpecLine
clause_form ts = do
  vars ← list_at var_item ts
  premise ← premise_at vars.1
  conclusion ← conclusion_of (without_mask premise.1)
  Some (lines.Clause vars.0 premise.0 conclusion (has_mask premise.1))

-- op NAME(PAR:SORT,PAR:SORT)
unfoldable pub op_form : List Token → Option SpecLine
op_form ts = do
  name ← word_at ts
  params ← list_at param_item name.1
  e ← ended params.1
  Some (lines.Op name.0 params.0)

-- set NAME(TERM,TERM), clear NAME(TERM,TERM)
unfoldable pub touch_form : Bool → List Token → Option SpecLine
touch_form truth ts = do
  name ← word_at ts
  terms ← list_at term_item name.1
  e ← ended terms.1
  Some (lines.Touch truth name.0 terms.0)

-- add N NAME(PAR,PAR), sub N NAME(PAR,PAR)
unfoldable pub change_form : Bool → List Token → Option SpecLine
change_form raises ts = do
  amount ← number_at ts
  name ← word_at amount.1
  params ← list_at name_item name.1
  e ← ended params.1
  Some (lines.Change raises amount.0 name.0 params.0)

-- free NAME NAME
unfoldable pub free_form : List Token → Option SpecLine
free_form ts = do
  first ← word_at ts
  second ← word_at first.1
  e ← ended second.1
  Some (lines.Free first.0 second.0)

-- a line with a line word of a specification follows that word's form
abbrev pub formed : Option SpecLine → Result (Option SpecLine) Cause
formed None = Err causes.BadForm
formed (Some line) = Ok (Some line)

-- the same as an answer of the code
abbrev pub Formed : Result SpecLine FormError → Result (Option SpecLine) LineError → Type 0
Formed (Ok line) result = result ≡ Ok (Some line)
Formed (Err forms.Memory) result = result ≡ Err errors.Memory
Formed (Err forms.Refused) result = result ≡ Err (errors.Refused causes.BadForm)

-- what the line with this first word says; nothing, where it is no line word of a specification
unfoldable pub spec_line : List ℕ → List Token → Result (Option SpecLine) Cause
spec_line word ts =
    if bytes_eq word (codes "sort") then formed (sort_form ts)
    else (if bytes_eq word (codes "pred") then formed (pred_form ts)
    else (if bytes_eq word (codes "num") then formed (num_form ts)
    else (if bytes_eq word (codes "clause") then formed (clause_form ts)
    else (if bytes_eq word (codes "op") then formed (op_form ts)
    else (if bytes_eq word (codes "set") then formed (touch_form true ts)
    else (if bytes_eq word (codes "clear") then formed (touch_form false ts)
    else (if bytes_eq word (codes "add") then formed (change_form true ts)
    else (if bytes_eq word (codes "sub") then formed (change_form false ts)
    else (if bytes_eq word (codes "free") then formed (free_form ts)
    else Ok None)))))))))
