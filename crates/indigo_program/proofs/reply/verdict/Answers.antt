use Rattle.std.proofs.Common.{length, ap, arith}
use Rattle.indigo_program.proofs.Lines.{lines_short}
use Rattle.indigo_program.proofs.reply.verdict.Goals as goal

pub check_answer-requires-clause-short : goal.check_answer-requires-clause-short
check_answer-requires-clause-short c = omega (arith, ap length c.as_slice.ensures.value, ap length c.in_ok-lines.ensures, lines_short c.args.plan.now, c.requires.short)
