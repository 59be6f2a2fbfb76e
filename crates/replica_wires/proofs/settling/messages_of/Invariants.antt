use Rattle.std.proofs.Common.{◌≡◌, ◌++◌}
use Rattle.replica_wires.specs.Letters.{all_addressed}
use Rattle.replica_wires.proofs.settling.messages_of.Given as goal

abbrev pub invariant-loop-letter : goal.invariant-loop-letter
invariant-loop-letter l = (l.messages.items ≡ all_addressed l.from l.to l.yielded) × (l.yielded ++ l.letter-iterator.rest.items ≡ l.fn.letters)
