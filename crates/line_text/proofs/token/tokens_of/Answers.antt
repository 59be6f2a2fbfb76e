use Rattle.std.proofs.Common.{◌≡◌, sym, ap, ◌∙◌, List, [], subst, ℕ}
use Rattle.std.proofs.lemmas.Bool.{eqb-true}
use Rattle.std.specs.Prelude.{Some}
use Rattle.std.proofs.lemmas.List.{append-nil, nil_from_length}
use Rattle.line_text.specs.Tokens.{tokens_of}
use Rattle.line_text.proofs.Pieces.{with_front, tokens_none}
use Rattle.line_text.proofs.token.tokens_of.Goals as goal

pub returns : goal.returns
returns c =
    let none : c.reading.rest.now ≡ [] = nil_from_length _ (eqb-true _ _ (sym c.is_empty.ensures ∙ c.reading-test.false)) in
    let so_far : with_front c.reading.tokens (tokens_of []) ≡ tokens_of c.args.line.now = subst (λ (r : List ℕ). with_front c.reading.tokens (tokens_of r) ≡ tokens_of c.args.line.now) none c.reading.invariant in
    let made : with_front c.reading.tokens (tokens_of []) ≡ Some c.reading.tokens = rw tokens_none (ap (λ ts. Some ts) (append-nil c.reading.tokens)) in
    sym so_far ∙ made
