-- What a specification is so far, and what each line adds to it or why it is refused.
use Rattle.std.specs.Prelude.{ℕ, ℤ, pos, ◌+◌, List, [], ◌∷◌, ◌++◌, length, Option, Some, None, Result, Ok, Err, if◌then◌else◌, ◌==◌, ◌&&◌, Bool, true, false, nat_le, nat_lt, not, count_by, map, get_or}
use Rattle.std.specs.Str.{bytes_eq}
use Rattle.std.specs.List.{list_all}
use Rattle.spec_model.specs.declared.spec.Sort.{Sort}
use Rattle.spec_model.specs.declared.spec.Pred.{Pred}
use Rattle.spec_model.specs.declared.spec.Num.{Num}
use Rattle.spec_model.specs.declared.spec.Rule.{Rule}
use Rattle.spec_model.specs.declared.clause.Var.{Var}
use Rattle.spec_model.specs.declared.clause.Clause.{Clause}
use Rattle.spec_model.specs.declared.clause.Literal.{Literal}
use Rattle.spec_model.specs.declared.clause.Literal.TheVariants as literals
use Rattle.spec_model.specs.declared.operation.Op.{Op}
use Rattle.spec_model.specs.declared.operation.Term.{Term}
use Rattle.spec_model.specs.declared.operation.Term.TheVariants as terms
use Rattle.spec_model.specs.declared.operation.Line.{Line}
use Rattle.spec_model.specs.declared.operation.Line.TheVariants as effects
use Rattle.spec_model.specs.declared.plan.Pair.{Pair}
use Rattle.spec_lines.specs.declared.item.NamedVar.{NamedVar}
use Rattle.spec_lines.specs.declared.item.NamedParam.{NamedParam}
use Rattle.spec_lines.specs.declared.item.NamedTerm.{NamedTerm}
use Rattle.spec_lines.specs.declared.item.NamedTerm.TheVariants as named_terms
use Rattle.spec_lines.specs.declared.line.NamedLiteral.{NamedLiteral}
use Rattle.spec_lines.specs.declared.line.NamedLiteral.TheVariants as named_literals
use Rattle.spec_lines.specs.declared.line.SpecLine.{SpecLine}
use Rattle.spec_lines.specs.declared.line.SpecLine.TheVariants as lines
use Rattle.line_text.specs.declared.cause.Cause.{Cause}
use Rattle.line_text.specs.declared.cause.Cause.TheVariants.{OutOfPlace, NameTaken, UnknownName, WrongArguments, OutOfRange, TooMany, FalseAtStart}
use Rattle.line_text.specs.Causes.{◌>>=◌, guard}
use Rattle.spec_language.specs.declared.draft.SpecDraft.{SpecDraft}
use Rattle.spec_language.specs.Names.{is_known, place_in, is_taken, are_free}
use Rattle.spec_model.specs.Truths.{no_pred, no_num}
use Rattle.spec_language.specs.AtStart.{tuple_count, clause_starts, at_least, at_most}

-- no line was taken yet
abbrev pub fresh : SpecDraft
fresh = record { rank = 0; spec = record { sorts = []; preds = []; nums = []; clauses = []; ops = []; free = [] }; universe = 0; instances = 0 }

-- ---- sort NAME SIZE

abbrev pub add_sort : SpecDraft → Sort → SpecDraft
add_sort d sort = record {
  rank = 1;
  spec = record { sorts = d.spec.sorts ++ sort ∷ []; preds = d.spec.preds; nums = d.spec.nums; clauses = d.spec.clauses; ops = d.spec.ops; free = d.spec.free };
  universe = d.universe;
  instances = d.instances;
}

unfoldable pub take_sort : SpecDraft → List ℕ → ℕ → Result SpecDraft Cause
take_sort d name size = do
  a ← guard (nat_le d.rank 1) OutOfPlace
  b ← guard (not (is_taken d.spec name)) NameTaken
  c ← guard (nat_le 1 size && nat_le size 1024) OutOfRange
  e ← guard (nat_lt (length d.spec.sorts) 16) TooMany
  Ok (add_sort d (record { name = name; size = size }))

-- ---- pred NAME(SORT,SORT) RULE true

-- the place of a sort by its name
unfoldable pub sort_place : List Sort → List ℕ → ℕ
sort_place sorts w = place_in (λ x. x.name) sorts w

-- the name of a sort
unfoldable pub is_sort : List Sort → List ℕ → Bool
is_sort sorts w = is_known (λ x. x.name) sorts w

abbrev pub add_pred : SpecDraft → Pred → ℕ → SpecDraft
add_pred d pred count = record {
  rank = 2;
  spec = record { sorts = d.spec.sorts; preds = d.spec.preds ++ pred ∷ []; nums = d.spec.nums; clauses = d.spec.clauses; ops = d.spec.ops; free = d.spec.free };
  universe = d.universe + count;
  instances = d.instances;
}

-- how many atoms or cells a declaration over these sorts adds
unfoldable pub count_named : List Sort → List (List ℕ) → ℕ
count_named sorts names = tuple_count sorts (map (sort_place sorts) names)

unfoldable pub take_pred : SpecDraft → List ℕ → List (List ℕ) → Rule → Bool → Result SpecDraft Cause
take_pred d name sorts rule first = do
  a ← guard (nat_le d.rank 2) OutOfPlace
  b ← guard (not (is_taken d.spec name)) NameTaken
  c ← guard (list_all (is_sort d.spec.sorts) sorts) UnknownName
  e ← guard (nat_le (length sorts) 3 && nat_lt (length d.spec.preds) 64) TooMany
  f ← guard (nat_le (d.universe + count_named d.spec.sorts sorts) 65536) TooMany
  Ok (add_pred d (record { name = name; sorts = map (sort_place d.spec.sorts) sorts; rule = rule; first = first }) (count_named d.spec.sorts sorts))

-- ---- num NAME(SORT) init N min N max N

abbrev pub add_num : SpecDraft → Num → ℕ → SpecDraft
add_num d num count = record {
  rank = 3;
  spec = record { sorts = d.spec.sorts; preds = d.spec.preds; nums = d.spec.nums ++ num ∷ []; clauses = d.spec.clauses; ops = d.spec.ops; free = d.spec.free };
  universe = d.universe + count;
  instances = d.instances;
}

-- at most 10 ^ 12, where it is given
abbrev pub is_value : Option ℕ → Bool
is_value None = true
is_value (Some n) = nat_le n 1000000000000

-- the same as a bound of a number
abbrev pub bound_of : Option ℕ → Option ℤ
bound_of None = None
bound_of (Some n) = Some (pos n)

unfoldable pub take_num : SpecDraft → List ℕ → List (List ℕ) → ℕ → Option ℕ → Option ℕ → Result SpecDraft Cause
take_num d name sorts init min max = do
  a ← guard (nat_le d.rank 3) OutOfPlace
  b ← guard (not (is_taken d.spec name)) NameTaken
  c ← guard (list_all (is_sort d.spec.sorts) sorts) UnknownName
  r ← guard (nat_le init 1000000000000 && is_value min && is_value max) OutOfRange
  e ← guard (nat_le (length sorts) 3 && nat_lt (length d.spec.nums) 64) TooMany
  f ← guard (nat_le (d.universe + count_named d.spec.sorts sorts) 65536) TooMany
  g ← guard (at_least init min && at_most init max) FalseAtStart
  Ok (add_num d (record { name = name; sorts = map (sort_place d.spec.sorts) sorts; init = pos init; min = bound_of min; max = bound_of max }) (count_named d.spec.sorts sorts))

-- ---- clause (VAR:SORT,VAR:SORT) LIT and LIT => LIT or LIT mask

-- the sort of a variable is declared
unfoldable pub is_var_known : List Sort → NamedVar → Bool
is_var_known sorts v = is_sort sorts v.sort

-- a variable with the place of its sort
unfoldable pub var_of : List Sort → NamedVar → Var
var_of sorts v = record { name = v.name; sort = sort_place sorts v.sort; interval = false }

-- the name of a variable or parameter
unfoldable pub is_var : List Var → List ℕ → Bool
is_var vars w = is_known (λ x. x.name) vars w

-- its place
unfoldable pub var_place : List Var → List ℕ → ℕ
var_place vars w = place_in (λ x. x.name) vars w

-- its sort
abbrev pub sort_of_var : List Var → List ℕ → ℕ
sort_of_var [] w = 0
sort_of_var (v ∷ vs) w = if bytes_eq v.name w then v.sort else sort_of_var vs w

-- whether it is an interval
abbrev pub is_interval : List Var → List ℕ → Bool
is_interval [] w = false
is_interval (v ∷ vs) w = if bytes_eq v.name w then v.interval else is_interval vs w

-- the name of a predicate
unfoldable pub is_pred : List Pred → List ℕ → Bool
is_pred preds w = is_known (λ x. x.name) preds w

-- its place
unfoldable pub pred_place : List Pred → List ℕ → ℕ
pred_place preds w = place_in (λ x. x.name) preds w

-- the sorts of its arguments
abbrev pub sorts_of_pred : List Pred → ℕ → List ℕ
sorts_of_pred preds p = (get_or preds p no_pred).sorts

-- the names of a literal are a predicate's and of variables
unfoldable pub is_literal_known : List Pred → List Var → NamedLiteral → Bool
is_literal_known preds vars (named_literals.Atom pred names) = is_pred preds pred && list_all (is_var vars) names
is_literal_known preds vars (named_literals.Equal left right) = is_var vars left && is_var vars right

-- as many of them as sorts, and each fits its sort
abbrev pub fit_all : {A : Type 0} → (A → ℕ → Bool) → List A → List ℕ → Bool
fit_all fits [] [] = true
fit_all fits [] (s ∷ ss) = false
fit_all fits (x ∷ xs) [] = false
fit_all fits (x ∷ xs) (s ∷ ss) = fits x s && fit_all fits xs ss

-- a variable or plain parameter of this sort
unfoldable pub is_plain : List Var → List ℕ → ℕ → Bool
is_plain vars w s = sort_of_var vars w == s && not (is_interval vars w)

-- an atom has at most three arguments
abbrev pub has_few : NamedLiteral → Bool
has_few (named_literals.Atom pred names) = nat_le (length names) 3
has_few (named_literals.Equal left right) = true

-- an atom has its predicate's sorts, an equality one sort
unfoldable pub literal_fits : List Pred → List Var → NamedLiteral → Bool
literal_fits preds vars (named_literals.Atom pred names) = nat_le (length names) 3 && fit_all (is_plain vars) names (sorts_of_pred preds (pred_place preds pred))
literal_fits preds vars (named_literals.Equal left right) = sort_of_var vars left == sort_of_var vars right

-- a literal with places for names
unfoldable pub literal_of : List Pred → List Var → NamedLiteral → Literal
literal_of preds vars (named_literals.Atom pred names) = literals.Atom (pred_place preds pred) (map (var_place vars) names)
literal_of preds vars (named_literals.Equal left right) = literals.Equal (var_place vars left) (var_place vars right)

-- a clause with places for names
abbrev pub clause_of : List Pred → List Var → List NamedLiteral → List NamedLiteral → Bool → Clause
clause_of preds vars premise conclusion mask = record { vars = vars; premise = map (literal_of preds vars) premise; conclusion = map (literal_of preds vars) conclusion; mask = mask }

abbrev pub add_clause : SpecDraft → Clause → ℕ → SpecDraft
add_clause d clause count = record {
  rank = 4;
  spec = record { sorts = d.spec.sorts; preds = d.spec.preds; nums = d.spec.nums; clauses = d.spec.clauses ++ clause ∷ []; ops = d.spec.ops; free = d.spec.free };
  universe = d.universe;
  instances = d.instances + count;
}

-- the places of the variables' sorts
abbrev pub var_sorts : List Var → List ℕ
var_sorts vars = map (λ v. v.sort) vars

-- all names of the literals are known, and then the literals fit
abbrev pub check_literals : List Pred → List Var → List NamedLiteral → List NamedLiteral → Result (Unit {0}) Cause
check_literals preds vars premise conclusion =
    guard (list_all (is_literal_known preds vars) premise && list_all (is_literal_known preds vars) conclusion) UnknownName
    >>= λ _. guard (list_all (literal_fits preds vars) premise && list_all (literal_fits preds vars) conclusion) WrongArguments

-- the causes behind those of the variables
unfoldable pub take_literals : SpecDraft → List Var → List NamedLiteral → List NamedLiteral → Bool → Result SpecDraft Cause
take_literals d vars premise conclusion mask = do
  c ← guard (list_all (is_literal_known d.spec.preds vars) premise && list_all (is_literal_known d.spec.preds vars) conclusion) UnknownName
  w ← guard (list_all (literal_fits d.spec.preds vars) premise && list_all (literal_fits d.spec.preds vars) conclusion) WrongArguments
  e ← guard (nat_le (length vars) 4 && nat_le (length premise + length conclusion) 8 && nat_lt (length d.spec.clauses) 64) TooMany
  f ← guard (nat_le (d.instances + tuple_count d.spec.sorts (var_sorts vars)) 1000000) TooMany
  g ← guard (clause_starts d.spec.sorts d.spec.preds (clause_of d.spec.preds vars premise conclusion mask)) FalseAtStart
  Ok (add_clause d (clause_of d.spec.preds vars premise conclusion mask) (tuple_count d.spec.sorts (var_sorts vars)))

-- the variables with places for their sorts, or the first cause
unfoldable pub take_vars : SpecDraft → List NamedVar → Result (List Var) Cause
take_vars d vars = do
  a ← guard (nat_le d.rank 4) OutOfPlace
  b ← guard (are_free (λ x. x.name) vars) NameTaken
  c ← guard (list_all (is_var_known d.spec.sorts) vars) UnknownName
  Ok (map (var_of d.spec.sorts) vars)

unfoldable pub take_clause : SpecDraft → List NamedVar → List NamedLiteral → List NamedLiteral → Bool → Result SpecDraft Cause
take_clause d vars premise conclusion mask = take_vars d vars >>= λ vs. take_literals d vs premise conclusion mask

-- ---- op NAME(PAR:SORT,PAR:SORT)

-- the sort of a parameter is declared
unfoldable pub is_param_known : List Sort → NamedParam → Bool
is_param_known sorts p = is_sort sorts p.sort

-- a parameter with the place of its sort
unfoldable pub param_of : List Sort → NamedParam → Var
param_of sorts p = record { name = p.name; sort = sort_place sorts p.sort; interval = p.interval }

abbrev pub add_op : SpecDraft → Op → SpecDraft
add_op d op = record {
  rank = 5;
  spec = record { sorts = d.spec.sorts; preds = d.spec.preds; nums = d.spec.nums; clauses = d.spec.clauses; ops = d.spec.ops ++ op ∷ []; free = d.spec.free };
  universe = d.universe;
  instances = d.instances;
}

unfoldable pub take_op : SpecDraft → List ℕ → List NamedParam → Result SpecDraft Cause
take_op d name params = do
  a ← guard (nat_le d.rank 5) OutOfPlace
  b ← guard (not (is_taken d.spec name) && are_free (λ x. x.name) params) NameTaken
  c ← guard (list_all (is_param_known d.spec.sorts) params) UnknownName
  w ← guard (nat_le (count_by (λ p. p.interval) params) 1) WrongArguments
  e ← guard (nat_le (length params) 4 && nat_lt (length d.spec.ops) 64) TooMany
  Ok (add_op d (record { name = name; params = map (param_of d.spec.sorts) params; lines = [] }))

-- ---- effect lines

-- what the last operation becomes
abbrev pub change_last : (Op → Result Op Cause) → List Op → Result (List Op) Cause
change_last f [] = Err OutOfPlace
change_last f (op ∷ []) = f op >>= λ o. Ok (o ∷ [])
change_last f (op ∷ p ∷ ops) = change_last f (p ∷ ops) >>= λ os. Ok (op ∷ os)

abbrev pub with_ops : SpecDraft → List Op → SpecDraft
with_ops d ops = record {
  rank = d.rank;
  spec = record { sorts = d.spec.sorts; preds = d.spec.preds; nums = d.spec.nums; clauses = d.spec.clauses; ops = ops; free = d.spec.free };
  universe = d.universe;
  instances = d.instances;
}

abbrev pub with_line : Op → Line → Op
with_line op line = record { name = op.name; params = op.params; lines = op.lines ++ line ∷ [] }

-- ---- set NAME(TERM,TERM), clear NAME(TERM,TERM)

-- `*`, or the name of a parameter
unfoldable pub is_term_known : List Var → NamedTerm → Bool
is_term_known params (named_terms.Param w) = is_var params w
is_term_known params named_terms.Every = true

-- `*`, or a parameter of this sort
unfoldable pub term_fits : List Var → NamedTerm → ℕ → Bool
term_fits params (named_terms.Param w) s = sort_of_var params w == s
term_fits params named_terms.Every s = true

-- an interval parameter
unfoldable pub takes_interval : List Var → NamedTerm → Bool
takes_interval params (named_terms.Param w) = is_interval params w
takes_interval params named_terms.Every = false

-- a term with a place for its name
unfoldable pub term_of : List Var → NamedTerm → Term
term_of params (named_terms.Param w) = terms.Param (var_place params w)
term_of params named_terms.Every = terms.Every

abbrev pub touch_line : Bool → ℕ → List Term → Line
touch_line true pred terms = effects.Set pred terms
touch_line false pred terms = effects.Clear pred terms

-- what the operation of the line becomes
unfoldable pub op_touch : List Pred → Bool → List ℕ → List NamedTerm → Op → Result Op Cause
op_touch preds truth pred terms op = do
  c ← guard (is_pred preds pred && list_all (is_term_known op.params) terms) UnknownName
  w ← guard (fit_all (term_fits op.params) terms (sorts_of_pred preds (pred_place preds pred)) && nat_le (count_by (takes_interval op.params) terms) 1) WrongArguments
  e ← guard (nat_lt (length op.lines) 16) TooMany
  Ok (with_line op (touch_line truth (pred_place preds pred) (map (term_of op.params) terms)))

unfoldable pub take_touch : SpecDraft → Bool → List ℕ → List NamedTerm → Result SpecDraft Cause
take_touch d truth pred terms = do
  a ← guard (d.rank == 5) OutOfPlace
  ops ← change_last (op_touch d.spec.preds truth pred terms) d.spec.ops
  Ok (with_ops d ops)

-- ---- add N NAME(PAR,PAR), sub N NAME(PAR,PAR)

-- the name of a number
unfoldable pub is_num : List Num → List ℕ → Bool
is_num nums w = is_known (λ x. x.name) nums w

-- its place
unfoldable pub num_place : List Num → List ℕ → ℕ
num_place nums w = place_in (λ x. x.name) nums w

-- the sorts of its arguments
abbrev pub sorts_of_num : List Num → ℕ → List ℕ
sorts_of_num nums n = (get_or nums n no_num).sorts

abbrev pub change_line : Bool → ℕ → List ℕ → ℕ → Line
change_line true num params amount = effects.Add num params amount
change_line false num params amount = effects.Sub num params amount

-- what the operation of the line becomes
unfoldable pub op_change : List Num → Bool → ℕ → List ℕ → List (List ℕ) → Op → Result Op Cause
op_change nums raises amount num names op = do
  c ← guard (is_num nums num && list_all (is_var op.params) names) UnknownName
  w ← guard (nat_le (length names) 3 && fit_all (is_plain op.params) names (sorts_of_num nums (num_place nums num))) WrongArguments
  r ← guard (nat_le 1 amount && nat_le amount 1000000000) OutOfRange
  e ← guard (nat_lt (length op.lines) 16) TooMany
  Ok (with_line op (change_line raises (num_place nums num) (map (var_place op.params) names) amount))

unfoldable pub take_change : SpecDraft → Bool → ℕ → List ℕ → List (List ℕ) → Result SpecDraft Cause
take_change d raises amount num names = do
  a ← guard (d.rank == 5) OutOfPlace
  ops ← change_last (op_change d.spec.nums raises amount num names) d.spec.ops
  Ok (with_ops d ops)

-- ---- free NAME NAME

-- the name of an operation
unfoldable pub is_op : List Op → List ℕ → Bool
is_op ops w = is_known (λ x. x.name) ops w

-- its place
unfoldable pub op_place : List Op → List ℕ → ℕ
op_place ops w = place_in (λ x. x.name) ops w

abbrev pub add_free : SpecDraft → Pair → SpecDraft
add_free d pair = record {
  rank = 6;
  spec = record { sorts = d.spec.sorts; preds = d.spec.preds; nums = d.spec.nums; clauses = d.spec.clauses; ops = d.spec.ops; free = d.spec.free ++ pair ∷ [] };
  universe = d.universe;
  instances = d.instances;
}

unfoldable pub take_free : SpecDraft → List ℕ → List ℕ → Result SpecDraft Cause
take_free d first second = do
  a ← guard (nat_le d.rank 6) OutOfPlace
  c ← guard (is_op d.spec.ops first && is_op d.spec.ops second) UnknownName
  Ok (add_free d (record { a = op_place d.spec.ops first; b = op_place d.spec.ops second }))

-- ---- all lines

-- what a line adds, or its first cause
unfoldable pub step : SpecDraft → SpecLine → Result SpecDraft Cause
step d (lines.Sort name size) = take_sort d name size
step d (lines.Pred name sorts rule first) = take_pred d name sorts rule first
step d (lines.Num name sorts init min max) = take_num d name sorts init min max
step d (lines.Clause vars premise conclusion mask) = take_clause d vars premise conclusion mask
step d (lines.Op name params) = take_op d name params
step d (lines.Touch truth pred terms) = take_touch d truth pred terms
step d (lines.Change raises amount num params) = take_change d raises amount num params
step d (lines.Free first second) = take_free d first second
