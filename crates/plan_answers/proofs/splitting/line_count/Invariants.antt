use Rattle.std.proofs.Common.{◌≡◌, ◌≤◌, ◌+◌, length}
use Rattle.line_text.specs.Lines.{lines_of}
use Rattle.plan_answers.proofs.splitting.line_count.Given as goal

abbrev pub invariant-going : goal.invariant-going
invariant-going l = (l.count + length (lines_of l.rest) ≡ length (lines_of l.bytes)) × (l.count + length l.rest ≤ length l.bytes)

abbrev pub decreases-going : goal.decreases-going
decreases-going l = length l.rest
