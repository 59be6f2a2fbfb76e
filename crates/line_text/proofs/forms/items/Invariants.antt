use Rattle.std.proofs.Common.{◌≡◌, length}
use Rattle.line_text.specs.Forms.{items}
use Rattle.line_text.proofs.Groups.{with_front}
use Rattle.line_text.proofs.forms.items.Given as goal

abbrev pub invariant-reading : goal.invariant-reading
invariant-reading g l = with_front l.found (items g.I.Item.reads l.rest) ≡ items g.I.Item.reads l.tokens

abbrev pub decreases-reading : goal.decreases-reading
decreases-reading g l = length l.rest
