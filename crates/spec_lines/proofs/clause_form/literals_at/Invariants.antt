use Rattle.std.proofs.Common.{◌≡◌, ◌-◌, length}
use Rattle.spec_lines.specs.Literals.{literals_within}
use Rattle.spec_lines.proofs.LiteralTurns.{with_front}
use Rattle.spec_lines.proofs.clause_form.literals_at.Given as goal

abbrev pub invariant-loop-turn : goal.invariant-loop-turn
invariant-loop-turn l = with_front l.found (literals_within (length l.tokens - l._turn) l.word l.rest) ≡ literals_within (length l.tokens) l.word l.tokens
