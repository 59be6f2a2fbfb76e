use Rattle.std.proofs.Common.{sym, ◌∙◌}
use Rattle.certificate_lines.specs.Words.{cut_at}
use Rattle.certificate_lines.proofs.Cuts.{last_word, next_word}
use Rattle.certificate_lines.proofs.words.Words.next.Goals as goal

pub returns-in-Some : goal.returns-in-Some
unfolding cut_at
returns-in-Some c = sym c.self.view_is ∙ next_word c.self.inside.rest.now _ c.self.inside.all_read c.if-self.false c.in-Some.ensures

pub returns-in-None : goal.returns-in-None
unfolding cut_at
returns-in-None c = sym c.self.view_is ∙ last_word c.self.inside.rest.now c.self.inside.all_read c.if-self.false c.in-None.ensures
