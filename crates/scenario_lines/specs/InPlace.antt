-- Lines of a schedule that are read where they stand, without a list of their tokens.
use Rattle.std.specs.Prelude.{◌≡◌, ℕ, List, [], ◌∷◌, ◌++◌, Option, Some, Bool, true}
use Rattle.std.specs.List.{list_all}
use Rattle.line_text.specs.declared.token.Token.{Token}
use Rattle.line_text.specs.Reads.{◌>>=◌}
use Rattle.line_text.specs.declared.token.Token.TheVariants.{Number, Mark}
use Rattle.line_text.specs.Forms.{items, list_at}
use Rattle.line_text.specs.Tokens.{tokens_of, is_within}
use Rattle.scenario_lines.specs.declared.argument.NamedArg.{NamedArg}
use Rattle.scenario_lines.specs.declared.argument.NamedArg.TheVariants as args
use Rattle.scenario_lines.specs.declared.line.RunLine.TheVariants as lines
use Rattle.scenario_lines.specs.Arguments.{arg_item}
use Rattle.scenario_lines.specs.Forms.{do_form, ask_form}

-- no number is past the limit of most places
abbrev pub are_modest : List Token → Bool
are_modest ts = list_all (is_within 1000000000000) ts

-- tokens before what is read behind them
abbrev pub ahead : List Token → Option (List Token) → Option (List Token)
ahead front read = read >>= λ ts. Some (front ++ ts)

-- the bytes are tokens of this form, and their numbers keep the limit
pub record IsRead {X : Type 0} (form : List Token → Option X) (x : X) (bytes : List ℕ) : Type 0 where
  pub tokens : List Token
  pub read : tokens_of bytes ≡ Some tokens
  pub modest : are_modest tokens ≡ true
  pub formed : form tokens ≡ Some x

-- how an argument is written
abbrev pub arg_tokens : NamedArg → List Token
arg_tokens (args.One n) = Number n ∷ []
arg_tokens (args.Span lo hi) = Number lo ∷ Mark 45 ∷ Number hi ∷ []

-- an argument stands next
pub record IsArgNext (x : NamedArg) (bytes behind : List ℕ) : Type 0 where
  pub tokens : List Token
  pub read : tokens_of bytes ≡ ahead tokens (tokens_of behind)
  pub modest : are_modest tokens ≡ true
  pub named : tokens ≡ arg_tokens x

-- arguments, read by a form of tokens, stand at the front of the bytes, and these are behind them
pub record StandFirst (form : List Token → Option (List NamedArg × List Token)) (xs : List NamedArg) (bytes behind : List ℕ) : Type 0 where
  pub tokens : List Token
  pub read : tokens_of bytes ≡ ahead tokens (tokens_of behind)
  pub modest : are_modest tokens ≡ true
  pub formed : (ts : List Token) → form (tokens ++ ts) ≡ Some (xs, ts)

-- arguments up to the bracket that closes
abbrev pub IsItemsRead : List NamedArg → List ℕ → List ℕ → Type 0
IsItemsRead xs bytes behind = StandFirst (items arg_item) xs bytes behind

-- arguments in brackets
abbrev pub IsListRead : List NamedArg → List ℕ → List ℕ → Type 0
IsListRead xs bytes behind = StandFirst (list_at arg_item) xs bytes behind

-- a request stands there, of a replica or of a client
abbrev pub IsRequestRead : ℕ → List ℕ → List NamedArg → List ℕ → Type 0
IsRequestRead n op xs bytes = IsRead do_form (lines.Do n op xs) bytes × IsRead ask_form (lines.AskDo n op xs) bytes
