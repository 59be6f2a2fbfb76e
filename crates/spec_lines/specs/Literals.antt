-- The literals of a clause, read from the front.
use Rattle.std.specs.Prelude.{ℕ, zero, suc, List, [], ◌∷◌, length, Option, Some, None, if◌then◌else◌, Bool, false, codes}
use Rattle.line_text.specs.declared.token.Token.{Token}
use Rattle.line_text.specs.Reads.{◌>>=◌}
use Rattle.line_text.specs.Tokens.{is_word}
use Rattle.line_text.specs.Forms.{is_mark, is_arrow, after_mark, after_arrow, flag_at, word_at, ended, list_at, name_item}
use Rattle.spec_lines.specs.declared.line.NamedLiteral.{NamedLiteral}
use Rattle.spec_lines.specs.declared.line.NamedLiteral.TheVariants as literals

-- NAME(VAR,VAR) behind its name
unfoldable pub atom_behind : List ℕ → List Token → Option (NamedLiteral × List Token)
atom_behind name ts = list_at name_item ts >>= λ vars. Some (literals.Atom name vars.0, vars.1)

-- VAR = VAR behind its first variable
unfoldable pub equal_behind : List ℕ → List Token → Option (NamedLiteral × List Token)
equal_behind left ts = do
  behind ← after_mark 61 ts
  right ← word_at behind
  Some (literals.Equal left right.0, right.1)

-- this symbol follows
unfoldable pub has_mark_next : ℕ → List Token → Bool
has_mark_next c [] = false
has_mark_next c (t ∷ ts) = is_mark c t

-- a literal, and the tokens behind it
unfoldable pub literal_at : List Token → Option (NamedLiteral × List Token)
literal_at ts = do
  name ← word_at ts
  if has_mark_next 40 name.1 then atom_behind name.0 name.1 else equal_behind name.0 name.1

-- at most this many literals with a word between them, and the tokens behind them
unfoldable pub literals_within : ℕ → List ℕ → List Token → Option (List NamedLiteral × List Token)
literals_within zero word ts = None
literals_within (suc n) word ts = do
  first ← literal_at ts
  if (flag_at word first.1).0
      then (literals_within n word (flag_at word first.1).1 >>= λ more. Some (first.0 ∷ more.0, more.1))
      else Some (first.0 ∷ [], first.1)

-- one literal or more with a word between them: there are no more of them than tokens
abbrev pub literals_at : List ℕ → List Token → Option (List NamedLiteral × List Token)
literals_at word ts = literals_within (length ts) word ts

-- `=>` follows
unfoldable pub has_arrow_next : List Token → Bool
has_arrow_next [] = false
has_arrow_next (t ∷ ts) = is_arrow t

-- the premise: no literals, or some joined by `and`; and the tokens behind `=>`
unfoldable pub premise_at : List Token → Option (List NamedLiteral × List Token)
premise_at ts =
    if has_arrow_next ts then (after_arrow ts >>= λ behind. Some ([], behind))
    else (literals_at (codes "and") ts >>= λ found. (after_arrow found.1 >>= λ behind. Some (found.0, behind)))

-- the conclusion: no literals, or some joined by `or`
unfoldable pub conclusion_of : List Token → Option (List NamedLiteral)
conclusion_of [] = Some []
conclusion_of (t ∷ ts) = literals_at (codes "or") (t ∷ ts) >>= λ found. (ended found.1 >>= λ e. Some found.0)

-- the mark of a clause
unfoldable pub is_mask : Token → Bool
is_mask t = is_word (codes "mask") t

-- the last token is `mask`
abbrev pub has_mask : List Token → Bool
has_mask [] = false
has_mask (t ∷ []) = is_mask t
has_mask (t ∷ u ∷ ts) = has_mask (u ∷ ts)

-- all but a last token `mask`
abbrev pub without_mask : List Token → List Token
without_mask [] = []
without_mask (t ∷ []) = if is_mask t then [] else t ∷ []
without_mask (t ∷ u ∷ ts) = t ∷ without_mask (u ∷ ts)
