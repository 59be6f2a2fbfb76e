use Rattle.std.proofs.Common.{sym, ap, ◌∙◌}
use Rattle.std.proofs.lemmas.Bool.{eqb-true}
use Rattle.std.proofs.lemmas.List.{nil_from_length}
use Rattle.line_text.specs.Tokens.{tokens_of}
use Rattle.line_text.proofs.Pieces.{tokens_none}
use Rattle.line_text.proofs.next.none_next.Goals as goal

pub returns : goal.returns
returns c = λ e. sym c.behind_blanks.ensures ∙ ap tokens_of (nil_from_length _ (eqb-true _ _ (sym c.is_empty.ensures ∙ e))) ∙ tokens_none
