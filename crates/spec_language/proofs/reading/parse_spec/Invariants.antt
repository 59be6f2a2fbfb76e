use Rattle.std.proofs.Common.{◌≡◌, ◌+◌, drop}
use Rattle.line_text.specs.Texts.{read_lines}
use Rattle.spec_language.specs.Reading.{accept, ends, draft_of}
use Rattle.spec_language.specs.Bounds.{Bounds}
use Rattle.spec_language.proofs.reading.parse_spec.Given as goal

abbrev pub invariant-loop-line : goal.invariant-loop-line
invariant-loop-line l = (read_lines accept ends l.number l.draft (drop l.line-index l.lines) ≡ draft_of l.lines) × (l.number ≡ l.line-index + 1) × Bounds l.draft
