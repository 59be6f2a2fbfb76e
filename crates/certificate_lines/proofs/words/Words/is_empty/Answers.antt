use Rattle.std.proofs.Common.{sym, ap, ◌∙◌}
use Rattle.certificate_lines.specs.Words.{is_none}
use Rattle.certificate_lines.proofs.Cuts.{none_left}
use Rattle.certificate_lines.proofs.words.Words.is_empty.Goals as goal

pub returns : goal.returns
returns c = sym (ap is_none (sym c.self.view_is) ∙ none_left c.self.inside.rest.now c.self.inside.all_read)
