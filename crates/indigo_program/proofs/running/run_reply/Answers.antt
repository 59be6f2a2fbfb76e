use Rattle.std.proofs.Common.{arith}
use Rattle.indigo_program.proofs.Lines.{lines_short}
use Rattle.indigo_program.proofs.running.run_reply.Goals as goal

pub parse_document-requires : goal.parse_document-requires
parse_document-requires g c = omega (arith, lines_short c.args.bytes.now, c.requires)
