use Rattle.std.proofs.Common.{◌≡◌, length}
use Rattle.line_text.specs.Tokens.{tokens_of}
use Rattle.line_text.proofs.next.behind_blanks.Given as goal

abbrev pub invariant-passing : goal.invariant-passing
invariant-passing l = tokens_of l.rest ≡ tokens_of l.bytes

abbrev pub decreases-passing : goal.decreases-passing
decreases-passing l = length l.rest
