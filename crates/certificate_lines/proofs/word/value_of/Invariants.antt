use Rattle.certificate_lines.proofs.Digits.{AreRead}
use Rattle.certificate_lines.proofs.word.value_of.Given as goal

abbrev pub invariant-loop-digit : goal.invariant-loop-digit
invariant-loop-digit l = AreRead l.word l.digit-index l.value
