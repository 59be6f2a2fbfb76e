use Rattle.std.proofs.Common.{◌≡◌, ◌+◌, ◌≤◌, length}
use Rattle.std.specs.List.{AllByRecursion}
use Rattle.line_text.specs.Lines.{lines_of}
use Rattle.scenario_text.specs.Groups.{HasTokens, words_of, first_from, first_line}
use Rattle.scenario_text.proofs.group.first_of.Given as goal

abbrev pub invariant-lines : goal.invariant-lines
invariant-lines l =
    (first_from (words_of l.group) l.number (lines_of l.rest) ≡ first_line (words_of l.group) (lines_of l.bytes))
    × AllByRecursion HasTokens (lines_of l.rest) × (l.number + length l.rest ≤ length l.bytes + 1)

abbrev pub decreases-lines : goal.decreases-lines
decreases-lines l = length l.rest
