use Rattle.std.proofs.Common.{◌≡◌, ◌++◌, length}
use Rattle.line_text.specs.Lines.{lines_of}
use Rattle.plan_answers.proofs.splitting.lines.Given as goal

abbrev pub invariant-going : goal.invariant-going
invariant-going l = l.lines ++ lines_of l.rest ≡ lines_of l.bytes

abbrev pub decreases-going : goal.decreases-going
decreases-going l = length l.rest
