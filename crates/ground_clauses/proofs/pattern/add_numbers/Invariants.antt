use Rattle.std.proofs.Common.{◌≡◌, ◌+◌, ◌++◌, length, drop}
use Rattle.ground_clauses.proofs.pattern.add_numbers.Given as goal

abbrev pub invariant-loop-number : goal.invariant-loop-number
invariant-loop-number l = record {
  value : l.sorts ++ drop l.number-index l.numbers ≡ l.fn.sorts ++ l.numbers;
  room : length l.sorts ≡ length l.fn.sorts + l.number-index;
}
