use Rattle.std.proofs.Common.{◌≡◌, ◌++◌, drop}
use Rattle.rejection_text.specs.Texts.{numbers_from}
use Rattle.rejection_text.proofs.parts.put_numbers.Given as goal

abbrev pub invariant-loop-at : goal.invariant-loop-at
invariant-loop-at l = l.out ++ numbers_from l.at (drop l.at l.numbers) ≡ l.fn.out ++ numbers_from 0 l.numbers
