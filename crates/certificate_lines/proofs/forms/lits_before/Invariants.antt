use Rattle.std.proofs.Common.{◌≡◌, length}
use Rattle.certificate_lines.specs.Forms as forms
use Rattle.certificate_lines.proofs.Each.{with_lits}
use Rattle.certificate_lines.proofs.forms.lits_before.Given as goal

abbrev pub invariant-reading : goal.invariant-reading
invariant-reading l = with_lits l.found (forms.lits_before l.words) ≡ forms.lits_before l.fn.words

abbrev pub decreases-reading : goal.decreases-reading
decreases-reading l = length l.words
