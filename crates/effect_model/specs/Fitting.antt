-- Tests of whether arguments fit parameters.
use Rattle.std.specs.Prelude.{ℕ, Bool, true, false, ◌&&◌, ◌||◌, ◌==◌, nat_le, nat_lt, List, [], ◌∷◌, slice_get}
use Rattle.std.specs.Option.{option_map_or}
use Rattle.ind_base.specs.declared.span.Span.{Span}
use Rattle.spec_model.specs.declared.clause.Var.{Var}
use Rattle.spec_model.specs.declared.spec.Spec.{Spec}
use Rattle.spec_model.specs.Truths.{size_of}

-- a span of elements of the sort, and one element where the parameter is plain
unfoldable pub arg_fits : Spec → Var → Span → Bool
arg_fits spec p a = nat_le a.lo a.hi && nat_lt a.hi (size_of spec p.sort) && (p.interval || a.lo == a.hi)

abbrev pub args_fit : Spec → List Var → List Span → Bool
args_fit spec [] [] = true
args_fit spec [] (a ∷ args) = false
args_fit spec (p ∷ params) [] = false
args_fit spec (p ∷ params) (a ∷ args) = arg_fits spec p a && args_fit spec params args

-- there is an argument at this place, and it fits
abbrev pub arg_at_fits : Spec → Var → List Span → ℕ → Bool
arg_at_fits spec p args at = option_map_or (arg_fits spec p) (slice_get args at) false
