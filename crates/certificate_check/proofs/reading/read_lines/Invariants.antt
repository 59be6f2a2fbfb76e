use Rattle.std.proofs.Common.{◌≡◌, ◌+◌, drop}
use Rattle.certificate_check.specs.Draft.{fresh}
use Rattle.certificate_check.specs.Reading.{read_from}
use Rattle.certificate_check.proofs.reading.read_lines.Given as goal

abbrev pub invariant-loop-line : goal.invariant-loop-line
invariant-loop-line l = (read_from l.spec l.number l.draft (drop l.line-index l.lines) ≡ read_from l.spec 1 fresh l.lines) × (l.number ≡ l.line-index + 1)
