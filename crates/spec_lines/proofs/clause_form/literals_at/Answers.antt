use Rattle.std.proofs.Common.{◌-◌, ◌+◌, length, sym, ◌∙◌, arith}
use Rattle.std.proofs.lemmas.Result.{err_from_is_err_and}
use Rattle.spec_lines.proofs.LiteralTurns.{literal-refused, literal-last, literal-next, literal-none}
use Rattle.spec_lines.proofs.clause_form.literals_at.Goals as goal

pub returns-in_err-literal : goal.returns-in_err-literal
returns-in_err-literal c =
    let p = err_from_is_err_and c.from_residual.result c.from_residual.ensures.1 in
    rw (p.1, p.2) (literal-refused _ (length c.args.tokens.now - c.loop-turn._turn) c.args.word.now c.loop-turn.rest.now c.loop-turn.found _ (omega (arith, c.loop-turn-test.true)) c.in_err-literal.ensures c.loop-turn.invariant)

pub returns-then-not-more : goal.returns-then-not-more
returns-then-not-more c =
    literal-last (length c.args.tokens.now - c.loop-turn._turn) c.args.word.now c.loop-turn.rest.now c.in_ok-literal.behind.now c.in_ok-literal.literal c.loop-turn.found _ _ (omega (arith, c.loop-turn-test.true))
    c.in_ok-literal.ensures (sym c.flag_at-more.ensures.flag ∙ c.if-not-more.true) c.in_ok-push.ensures.ok c.loop-turn.invariant

pub loop-turn-preserved : goal.loop-turn-preserved
loop-turn-preserved c =
    literal-next (length c.args.tokens.now - c.loop-turn._turn) (length c.args.tokens.now - (c.loop-turn._turn + 1)) c.args.word.now c.loop-turn.rest.now c.in_ok-literal.behind.now c.flag_at-more.result.1.now c.in_ok-literal.literal c.loop-turn.found _ _ (omega (arith, c.loop-turn-test.true))
    c.in_ok-literal.ensures (sym c.flag_at-more.ensures.flag ∙ c.if-not-more.false) c.flag_at-more.ensures.rest c.in_ok-push.ensures.ok c.loop-turn.invariant

pub returns : goal.returns
returns c = literal-none (length c.args.tokens.now - c.loop-turn._turn) c.args.word.now c.loop-turn.rest.now c.loop-turn.found _ (omega arith) c.loop-turn.invariant
