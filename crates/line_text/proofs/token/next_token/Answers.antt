use Rattle.std.proofs.Common.{sym, ap, ◌∙◌}
use Rattle.std.proofs.lemmas.Result.{err_from_is_err_and}
use Rattle.std.specs.Prelude.{Some}
use Rattle.line_text.specs.declared.token.Token.TheVariants.{Arrow}
use Rattle.line_text.specs.Tokens.{tokens_of, before}
use Rattle.line_text.proofs.Pieces.{run_taken, arrow_taken, run_refused, blank_passed, mark_taken, mark_refused}
use Rattle.line_text.proofs.token.next_token.Goals as goal

pub returns-in_err-token-clause-refused : goal.returns-in_err-token-clause-refused
returns-in_err-token-clause-refused c =
    let p = err_from_is_err_and c.from_residual.result c.from_residual.ensures.1 in
    rw (p.1, p.2) (run_refused _ c.args.bytes.now c.split_at.result.0.now c.split_at.result.1.now (rw (c.split_at.ensures.front, c.split_at.ensures.back) c.run_len-len.ensures.run) c.in_err-token.ensures)

pub returns-then-is_word_byte-clause-token : goal.returns-then-is_word_byte-clause-token
returns-then-is_word_byte-clause-token c =
    let split = c.run_len-len.ensures.run in
    run_taken c.in_ok-token.token c.args.bytes.now c.split_at.result.0.now c.split_at.result.1.now (rw (c.split_at.ensures.front, c.split_at.ensures.back) split) c.in_ok-token.ensures

pub returns-then-is_blank-clause-token : goal.returns-then-is_blank-clause-token
returns-then-is_blank-clause-token c =
    blank_passed c.args.bytes.now c.requires (sym c.is_word_byte.ensures ∙ c.if-is_word_byte.false) (sym c.starts_arrow.ensures ∙ c.if-starts_arrow.false) (sym c.is_blank.ensures ∙ c.if-is_blank.true) ∙ ap tokens_of (sym c.split_at-2.ensures.back)

pub returns-in_err-token-2-clause-refused : goal.returns-in_err-token-2-clause-refused
returns-in_err-token-2-clause-refused c =
    let p = err_from_is_err_and c.from_residual-in_err-token-2.result c.from_residual-in_err-token-2.ensures.1 in
    rw (p.1, p.2) (mark_refused _ c.args.bytes.now c.requires (sym c.is_word_byte.ensures ∙ c.if-is_word_byte.false) (sym c.starts_arrow.ensures ∙ c.if-starts_arrow.false) (sym c.is_blank.ensures ∙ c.if-is_blank.false) c.in_err-token-2.ensures)

pub returns-clause-token : goal.returns-clause-token
returns-clause-token c =
    let h = mark_taken c.in_ok-token-2.token c.args.bytes.now c.requires (sym c.is_word_byte.ensures ∙ c.if-is_word_byte.false) (sym c.starts_arrow.ensures ∙ c.if-starts_arrow.false) (sym c.is_blank.ensures ∙ c.if-is_blank.false) c.in_ok-token-2.ensures in
    rw c.split_at-2.ensures.back h

pub returns-then-starts_arrow-clause-token : goal.returns-then-starts_arrow-clause-token
returns-then-starts_arrow-clause-token c = arrow_taken c.args.bytes.now (sym c.starts_arrow.ensures ∙ c.if-starts_arrow.true) ∙ ap (before (Some Arrow)) (ap tokens_of (sym c.split_at-then-starts_arrow.ensures.back))
