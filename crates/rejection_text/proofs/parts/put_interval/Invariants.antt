use Rattle.std.proofs.Common.{◌≡◌, ◌++◌, ◌-◌}
use Rattle.std.specs.List.{flat_map}
use Rattle.ground_clauses.specs.Cases.{upto_from}
use Rattle.rejection_text.specs.Texts.{bit_text, interval_text}
use Rattle.rejection_text.proofs.parts.put_interval.Given as goal

abbrev pub invariant-loop-class : goal.invariant-loop-class
invariant-loop-class l = l.out ++ flat_map (bit_text l.bits) (upto_from l.class (l.count - l.class)) ≡ l.fn.out ++ interval_text l.count l.bits
