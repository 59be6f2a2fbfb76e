-- The lines that say a specification, in order of rank, and its canonical text.
use Rattle.std.specs.Prelude.{ℕ, ℤ, pos, negsuc, List, [], ◌∷◌, ◌++◌, map, slice_get, Option, Some, None, Bool, true, false}
use Rattle.std.specs.List.{flat_map}
use Rattle.std.specs.Option.{option_map_or}
use Rattle.spec_model.specs.declared.spec.Sort.{Sort}
use Rattle.spec_model.specs.declared.spec.Pred.{Pred}
use Rattle.spec_model.specs.declared.spec.Num.{Num}
use Rattle.spec_model.specs.declared.spec.Spec.{Spec}
use Rattle.spec_model.specs.declared.clause.Var.{Var}
use Rattle.spec_model.specs.declared.clause.Clause.{Clause}
use Rattle.spec_model.specs.declared.clause.Literal.{Literal}
use Rattle.spec_model.specs.declared.clause.Literal.TheVariants as literals
use Rattle.spec_model.specs.declared.operation.Op.{Op}
use Rattle.spec_model.specs.declared.operation.Term.{Term}
use Rattle.spec_model.specs.declared.operation.Term.TheVariants as terms
use Rattle.spec_model.specs.declared.operation.Line.{Line}
use Rattle.spec_model.specs.declared.operation.Line.TheVariants as effects
use Rattle.spec_model.specs.declared.plan.Pair.{Pair}
use Rattle.spec_lines.specs.declared.item.NamedVar.{NamedVar}
use Rattle.spec_lines.specs.declared.item.NamedParam.{NamedParam}
use Rattle.spec_lines.specs.declared.item.NamedTerm.{NamedTerm}
use Rattle.spec_lines.specs.declared.item.NamedTerm.TheVariants as named_terms
use Rattle.spec_lines.specs.declared.line.NamedLiteral.{NamedLiteral}
use Rattle.spec_lines.specs.declared.line.NamedLiteral.TheVariants as named_literals
use Rattle.spec_lines.specs.declared.line.SpecLine.{SpecLine}
use Rattle.spec_lines.specs.declared.line.SpecLine.TheVariants as lines
use Rattle.spec_lines.specs.Texts.{line_text}

-- the name of what stands at this place
abbrev pub name_at : {X : Type 0} → (X → List ℕ) → List X → ℕ → List ℕ
name_at name xs i = option_map_or name (slice_get xs i) []

-- the name of a sort
unfoldable pub sort_name : List Sort → ℕ → List ℕ
sort_name sorts i = name_at (λ x. x.name) sorts i

-- the name of a variable or parameter
unfoldable pub var_name : List Var → ℕ → List ℕ
var_name vars i = name_at (λ x. x.name) vars i

-- the name of a predicate
unfoldable pub pred_name : List Pred → ℕ → List ℕ
pred_name preds i = name_at (λ x. x.name) preds i

-- the name of a number
unfoldable pub num_name : List Num → ℕ → List ℕ
num_name nums i = name_at (λ x. x.name) nums i

-- the name of an operation
unfoldable pub op_name : List Op → ℕ → List ℕ
op_name ops i = name_at (λ x. x.name) ops i

unfoldable pub say_sort : Sort → SpecLine
say_sort s = lines.Sort s.name s.size

unfoldable pub say_pred : List Sort → Pred → SpecLine
say_pred sorts p = lines.Pred p.name (map (sort_name sorts) p.sorts) p.rule p.first

-- a value that isn't negative
abbrev pub value_of : ℤ → ℕ
value_of (pos n) = n
value_of (negsuc n) = 0

-- the same of a bound
abbrev pub value_of_bound : Option ℤ → Option ℕ
value_of_bound None = None
value_of_bound (Some z) = Some (value_of z)

unfoldable pub say_num : List Sort → Num → SpecLine
say_num sorts n = lines.Num n.name (map (sort_name sorts) n.sorts) (value_of n.init) (value_of_bound n.min) (value_of_bound n.max)

unfoldable pub say_var : List Sort → Var → NamedVar
say_var sorts v = record { name = v.name; sort = sort_name sorts v.sort }

unfoldable pub say_literal : List Pred → List Var → Literal → NamedLiteral
say_literal preds vars (literals.Atom p places) = named_literals.Atom (pred_name preds p) (map (var_name vars) places)
say_literal preds vars (literals.Equal l r) = named_literals.Equal (var_name vars l) (var_name vars r)

unfoldable pub say_clause : List Sort → List Pred → Clause → SpecLine
say_clause sorts preds c = lines.Clause (map (say_var sorts) c.vars) (map (say_literal preds c.vars) c.premise) (map (say_literal preds c.vars) c.conclusion) c.mask

unfoldable pub say_param : List Sort → Var → NamedParam
say_param sorts p = record { name = p.name; sort = sort_name sorts p.sort; interval = p.interval }

unfoldable pub say_term : List Var → Term → NamedTerm
say_term params (terms.Param i) = named_terms.Param (var_name params i)
say_term params terms.Every = named_terms.Every

abbrev pub say_touch : List Pred → List Var → Bool → ℕ → List Term → SpecLine
say_touch preds params truth pred places = lines.Touch truth (pred_name preds pred) (map (say_term params) places)

abbrev pub say_change : List Num → List Var → Bool → ℕ → List ℕ → ℕ → SpecLine
say_change nums params raises num places amount = lines.Change raises amount (num_name nums num) (map (var_name params) places)

unfoldable pub say_line : List Pred → List Num → List Var → Line → SpecLine
say_line preds nums params (effects.Set pred places) = say_touch preds params true pred places
say_line preds nums params (effects.Clear pred places) = say_touch preds params false pred places
say_line preds nums params (effects.Add num places amount) = say_change nums params true num places amount
say_line preds nums params (effects.Sub num places amount) = say_change nums params false num places amount

abbrev pub say_op_line : List Sort → Op → SpecLine
say_op_line sorts op = lines.Op op.name (map (say_param sorts) op.params)

-- an operation is said by its own line and its effect lines
unfoldable pub say_op : List Sort → List Pred → List Num → Op → List SpecLine
say_op sorts preds nums op = say_op_line sorts op ∷ map (say_line preds nums op.params) op.lines

unfoldable pub say_free : List Op → Pair → SpecLine
say_free ops pair = lines.Free (op_name ops pair.a) (op_name ops pair.b)

-- all lines of a specification
unfoldable pub spec_lines : Spec → List SpecLine
spec_lines s =
    map say_sort s.sorts ++ (map (say_pred s.sorts) s.preds ++ (map (say_num s.sorts) s.nums
    ++ (map (say_clause s.sorts s.preds) s.clauses ++ (flat_map (say_op s.sorts s.preds s.nums) s.ops ++ map (say_free s.ops) s.free))))

-- a line with its end
unfoldable pub ended_text : SpecLine → List ℕ
ended_text line = line_text line ++ (10 ∷ [])

-- the text of operations, one after the other
abbrev pub ops_text : List Sort → List Pred → List Num → List Op → List ℕ
ops_text sorts preds nums [] = []
ops_text sorts preds nums (op ∷ ops) = flat_map ended_text (say_op sorts preds nums op) ++ ops_text sorts preds nums ops

-- the canonical text of a specification: its lines in order of rank, each with its end
abbrev pub spec_text : Spec → List ℕ
spec_text s =
    flat_map ended_text (map say_sort s.sorts) ++ (flat_map ended_text (map (say_pred s.sorts) s.preds) ++ (flat_map ended_text (map (say_num s.sorts) s.nums)
    ++ (flat_map ended_text (map (say_clause s.sorts s.preds) s.clauses) ++ (ops_text s.sorts s.preds s.nums s.ops ++ flat_map ended_text (map (say_free s.ops) s.free)))))
