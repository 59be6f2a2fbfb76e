-- The requests of a run: an operation with its arguments.
use Rattle.std.specs.Prelude.{ℕ, List, [], ◌∷◌, length, Bool, true, false, ◌&&◌, not, nat_le, nat_lt, map, get_or}
use Rattle.std.specs.List.{list_all}
use Rattle.ind_base.specs.declared.span.Span.{Span}
use Rattle.spec_model.specs.declared.spec.Sort.{Sort}
use Rattle.spec_model.specs.declared.clause.Var.{Var}
use Rattle.spec_model.specs.declared.operation.Op.{Op}
use Rattle.spec_model.specs.declared.instance.Inst.{Inst}
use Rattle.scenario_lines.specs.declared.argument.NamedArg.{NamedArg}
use Rattle.scenario_lines.specs.declared.argument.NamedArg.TheVariants as args
use Rattle.spec_model.specs.Truths.{no_op}
use Rattle.spec_language.specs.Names.{is_known, place_in}
use Rattle.spec_language.specs.AtStart.{size_at}

-- the name of an operation
unfoldable pub is_op : List Op → List ℕ → Bool
is_op ops w = is_known (λ x. x.name) ops w

-- its place
unfoldable pub op_place : List Op → List ℕ → ℕ
op_place ops w = place_in (λ x. x.name) ops w

-- the parameters of an operation
abbrev pub params_at : List Op → ℕ → List Var
params_at ops i = (get_or ops i no_op).params

-- a span for an interval parameter, a number for a plain one
abbrev pub arg_fits : Var → NamedArg → Bool
arg_fits param (args.One n) = not param.interval
arg_fits param (args.Span lo hi) = param.interval

-- as many arguments as parameters, each of its kind
abbrev pub args_fit : List Var → List NamedArg → Bool
args_fit [] [] = true
args_fit [] (a ∷ xs) = false
args_fit (p ∷ ps) [] = false
args_fit (p ∷ ps) (a ∷ xs) = arg_fits p a && args_fit ps xs

-- the elements that an argument stands for
abbrev pub span_of : NamedArg → Span
span_of (args.One n) = record { lo = n; hi = n }
span_of (args.Span lo hi) = record { lo = lo; hi = hi }

-- its ends don't fall, and no sort has so many elements
unfoldable pub is_ordered : NamedArg → Bool
is_ordered a = nat_le (span_of a).lo (span_of a).hi && nat_lt (span_of a).hi 1024

-- each argument lies in its parameter's sort
abbrev pub args_within : List Sort → List Var → List NamedArg → Bool
args_within sorts [] xs = true
args_within sorts (p ∷ ps) [] = true
args_within sorts (p ∷ ps) (a ∷ xs) = nat_lt (span_of a).hi (size_at sorts p.sort) && args_within sorts ps xs

-- the instance of an operation at arguments
unfoldable pub inst_of : List Op → List ℕ → List NamedArg → Inst
inst_of ops op xs = record { op = op_place ops op; args = map span_of xs }

-- an operation has at most four arguments
unfoldable pub request_fits : List Op → List ℕ → List NamedArg → Bool
request_fits ops op xs = nat_le (length xs) 4 && args_fit (params_at ops (op_place ops op)) xs

-- all arguments are elements
unfoldable pub request_within : List Sort → List Op → List ℕ → List NamedArg → Bool
request_within sorts ops op xs = list_all is_ordered xs && args_within sorts (params_at ops (op_place ops op)) xs
