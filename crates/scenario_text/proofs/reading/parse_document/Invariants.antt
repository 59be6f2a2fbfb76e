use Rattle.std.proofs.Common.{◌≡◌, ◌+◌, ◌≤◌, length}
use Rattle.line_text.specs.Lines.{lines_of}
use Rattle.line_text.specs.Texts.{read_lines}
use Rattle.scenario_text.specs.Draft.{ends}
use Rattle.scenario_text.specs.Reading.{accept, draft_of}
use Rattle.scenario_text.specs.Bounds.{Bounds}
use Rattle.scenario_text.proofs.reading.parse_document.Given as goal

abbrev pub invariant-lines : goal.invariant-lines
invariant-lines l =
    (read_lines accept ends l.number l.draft (lines_of l.rest) ≡ draft_of (lines_of l.bytes))
    × (l.number + length (lines_of l.rest) ≤ length (lines_of l.bytes) + 1) × Bounds l.draft

abbrev pub decreases-lines : goal.decreases-lines
decreases-lines l = length l.rest
