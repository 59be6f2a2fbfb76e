use Rattle.std.proofs.Common.{add-one, arith}
use Rattle.line_text.proofs.LineCuts.{lines_of-cut, lines_of-last}
use Rattle.line_text.proofs.lines.split_line.Goals as goal

pub returns-then-b-eq10-clause-lines : goal.returns-then-b-eq10-clause-lines
returns-then-b-eq10-clause-lines c =
    rw (c.without_return_of.ensures, c.split_at.ensures.front, c.split_at-then-b-eq10.ensures.back, add-one) (lines_of-cut c.loop-at.at c.args.bytes.now c.loop-at-test.true c.loop-at.invariant c.if-b-eq10.true)

pub returns-clause-lines : goal.returns-clause-lines
returns-clause-lines c = rw c.as_slice.ensures (lines_of-last c.args.bytes.now c.requires (λ k small. c.loop-at.invariant k (omega arith)))
