-- What stands between commas in a line of a specification.
use Rattle.std.specs.Prelude.{List, [], ◌∷◌, Option, Some, None, if◌then◌else◌, codes}
use Rattle.line_text.specs.declared.token.Token.{Token}
use Rattle.line_text.specs.Reads.{◌>>=◌}
use Rattle.line_text.specs.Forms.{is_mark, after_mark, flag_at, word_at, ended}
use Rattle.spec_lines.specs.declared.item.NamedVar.{NamedVar}
use Rattle.spec_lines.specs.declared.item.NamedParam.{NamedParam}
use Rattle.spec_lines.specs.declared.item.NamedTerm.{NamedTerm}
use Rattle.spec_lines.specs.declared.item.NamedTerm.TheVariants as terms

-- VAR:SORT
unfoldable pub var_item : List Token → Option NamedVar
var_item ts = do
  name ← word_at ts
  behind ← after_mark 58 name.1
  sort ← word_at behind
  e ← ended sort.1
  Some (record { name = name.0; sort = sort.0 })

-- PAR:SORT, or PAR:SORT interval
unfoldable pub param_item : List Token → Option NamedParam
param_item ts = do
  name ← word_at ts
  behind ← after_mark 58 name.1
  sort ← word_at behind
  e ← ended (flag_at (codes "interval") sort.1).1
  Some (record { name = name.0; sort = sort.0; interval = (flag_at (codes "interval") sort.1).0 })

-- PAR, or *
unfoldable pub term_item : List Token → Option NamedTerm
term_item [] = None
term_item (t ∷ []) = if is_mark 42 t then Some terms.Every else (word_at (t ∷ []) >>= λ w. Some (terms.Param w.0))
term_item (t ∷ u ∷ ts) = None
