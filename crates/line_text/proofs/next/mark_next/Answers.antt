use Rattle.std.proofs.Common.{◌<◌, length, sym, ap, ◌∙◌, arith}
use Rattle.std.specs.Prelude.{Some}
use Rattle.std.proofs.lemmas.Bool.{eqb-false}
use Rattle.line_text.specs.declared.token.Token.TheVariants.{Mark}
use Rattle.line_text.specs.Tokens.{tokens_of, before}
use Rattle.line_text.proofs.NextTokens.{mark_stands}
use Rattle.line_text.proofs.next.mark_next.Goals as goal

pub returns : goal.returns
returns c =
    let ne = eqb-false _ _ (sym c.is_empty.ensures ∙ c.if-is_empty.false) in
    let rest = c.behind_blanks-rest.result.now in
    let some : 0 < length c.behind_blanks-rest.result.now = omega arith in
    sym c.behind_blanks-rest.ensures ∙ mark_stands c.args.c c.behind_blanks-rest.result.now some c.if-rest-c.false c.requires.mark c.requires.alone
    ∙ ap (before (Some (Mark c.args.c))) (ap tokens_of (sym c.split_at.ensures.back))
