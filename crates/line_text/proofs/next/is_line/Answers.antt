use Rattle.std.proofs.Common.{sym, ◌∙◌}
use Rattle.line_text.proofs.NextTokens.{neat_line}
use Rattle.line_text.proofs.next.is_line.Goals as goal

pub returns : goal.returns
returns c = λ neat. neat_line c.args.bytes.now (sym c.are_neat.ensures ∙ neat)
