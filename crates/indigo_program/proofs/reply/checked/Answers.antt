use Rattle.std.proofs.Common.{arith}
use Rattle.indigo_program.proofs.Lines.{lines_short}
use Rattle.indigo_program.proofs.Runs.{checked_answer}
use Rattle.indigo_program.proofs.reply.checked.Goals as goal

pub parse_document-requires : goal.parse_document-requires
parse_document-requires c = omega (arith, lines_short c.split_at_plan.result.0.now, c.split_at_plan.ensures.front_short, c.requires)

pub verdict-requires-clause-short : goal.verdict-requires-clause-short
verdict-requires-clause-short c = omega (arith, c.split_at_plan.ensures.rest_short, c.requires)

pub returns-in-Ok : goal.returns-in-Ok
returns-in-Ok c = λ bays alone.
    checked_answer c.args.bytes.now c.split_at_plan.result.0.now c.split_at_plan.result.1.now c.in-Ok.document c.line_count.result bays c.verdict.result
    c.split_at_plan.ensures.front c.split_at_plan.ensures.rest c.in-Ok.ensures.value c.line_count.ensures.value alone c.verdict.ensures
