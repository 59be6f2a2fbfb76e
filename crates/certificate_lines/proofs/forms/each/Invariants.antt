use Rattle.std.proofs.Common.{◌≡◌, length}
use Rattle.certificate_lines.specs.Forms as forms
use Rattle.certificate_lines.proofs.Each.{with_front}
use Rattle.certificate_lines.proofs.forms.each.Given as goal

abbrev pub invariant-reading : goal.invariant-reading
invariant-reading g l = with_front l.found (forms.each g.W.Word.reads l.words) ≡ forms.each g.W.Word.reads l.fn.words

abbrev pub decreases-reading : goal.decreases-reading
decreases-reading g l = length l.words
