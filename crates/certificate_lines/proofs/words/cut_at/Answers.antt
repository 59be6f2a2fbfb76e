use Rattle.std.proofs.Common.{sym, ◌∙◌}
use Rattle.certificate_lines.specs.Words.{cut_at, is_byte}
use Rattle.certificate_lines.proofs.Cuts.{cut_here, cut_never}
use Rattle.certificate_lines.proofs.words.cut_at.Goals as goal

pub returns-in-Some : goal.returns-in-Some
unfolding cut_at
returns-in-Some c = cut_here (is_byte c.args.c) c.args.bytes.now _ c.split_at.result.1.now _ c.in-Some.at 0 (sym c.place_of.ensures ∙ c.in-Some.is) c.split_at.ensures.front c.split_at.ensures.back c.split_at-in-Some.ensures.back

pub returns-in-None : goal.returns-in-None
unfolding cut_at
returns-in-None c = cut_never (is_byte c.args.c) c.args.bytes.now 0 (sym c.place_of.ensures ∙ c.in-None.is)
