use Rattle.std.proofs.Common.{◌≡◌, ◌++◌, drop}
use Rattle.run_model.specs.Trace.{numbers_text}
use Rattle.run_trace.proofs.parts.put_numbers.Given as goal

abbrev pub invariant-loop-at : goal.invariant-loop-at
invariant-loop-at l = l.out ++ numbers_text l.at (drop l.at l.numbers) ≡ l.fn.out ++ numbers_text 0 l.numbers
