use Rattle.std.proofs.Common.{◌≡◌, length}
use Rattle.line_text.specs.Tokens.{tokens_of}
use Rattle.line_text.proofs.Pieces.{with_front}
use Rattle.line_text.proofs.token.tokens_of.Given as goal

abbrev pub invariant-reading : goal.invariant-reading
invariant-reading l = with_front l.tokens (tokens_of l.rest) ≡ tokens_of l.line

abbrev pub decreases-reading : goal.decreases-reading
decreases-reading l = length l.rest
