use Rattle.std.proofs.Common.{sym, ◌∙◌, arith}
use Rattle.line_text.proofs.LineCuts.{before_comment-cut, before_comment-all}
use Rattle.line_text.proofs.lines.before_comment.Goals as goal

pub returns-then-b-eq35 : goal.returns-then-b-eq35
returns-then-b-eq35 c = c.split_at.ensures.front ∙ sym (before_comment-cut c.loop-at.at c.args.line.now c.loop-at-test.true c.loop-at.invariant c.if-b-eq35.true)

pub returns : goal.returns
returns c = sym (before_comment-all c.args.line.now (λ k small. c.loop-at.invariant k (omega arith)))
