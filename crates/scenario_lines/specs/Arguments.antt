-- The arguments of a request as they are written.
use Rattle.std.specs.Prelude.{ℕ, List, [], ◌∷◌, Option, Some}
use Rattle.line_text.specs.declared.token.Token.{Token}
use Rattle.line_text.specs.Reads.{◌>>=◌}
use Rattle.line_text.specs.Forms.{after_mark, number_at, ended}
use Rattle.scenario_lines.specs.declared.argument.NamedArg.{NamedArg}
use Rattle.scenario_lines.specs.declared.argument.NamedArg.TheVariants as args

-- - and the second number, behind the first one
unfoldable pub span_behind : ℕ → List Token → Option NamedArg
span_behind lo ts = do
  behind ← after_mark 45 ts
  hi ← number_at behind
  e ← ended hi.1
  Some (args.Span lo hi.0)

-- behind the first number: nothing, or - and the second
unfoldable pub arg_behind : ℕ → List Token → Option NamedArg
arg_behind lo [] = Some (args.One lo)
arg_behind lo (t ∷ ts) = span_behind lo (t ∷ ts)

-- a number, or LO-HI
unfoldable pub arg_item : List Token → Option NamedArg
arg_item ts = number_at ts >>= λ lo. arg_behind lo.0 lo.1
