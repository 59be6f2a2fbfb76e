use Rattle.std.proofs.Common.{◌<◌, length, sym, ap, ◌∙◌, arith}
use Rattle.std.proofs.lemmas.Bool.{eqb-false}
use Rattle.line_text.specs.Tokens.{tokens_of}
use Rattle.line_text.proofs.NextTokens.{blank_behind}
use Rattle.line_text.proofs.next.behind_blanks.Goals as goal

pub passing-preserved : goal.passing-preserved
passing-preserved c =
    let ne = eqb-false _ _ (sym c.is_empty.ensures ∙ c.passing-test.true) in
    let some : 0 < length c.passing.rest.now = omega arith in
    ap tokens_of c.split_at.ensures.back ∙ sym (blank_behind c.passing.rest.now some (sym c.is_blank.ensures ∙ c.if-not-is_blank.false)) ∙ c.passing.invariant
