use Rattle.std.proofs.Common.{sym, ◌∙◌}
use Rattle.line_text.proofs.Pieces.{run_taken}
use Rattle.line_text.proofs.next.run_next.Goals as goal

pub returns-clause-run : goal.returns-clause-run
returns-clause-run c = λ t is.
    sym c.behind_blanks-rest.ensures ∙ run_taken t c.behind_blanks-rest.result.now c.split_at.result.0.now c.split_at.result.1.now (rw (c.split_at.ensures.front, c.split_at.ensures.back) c.run_len.ensures.run) is
