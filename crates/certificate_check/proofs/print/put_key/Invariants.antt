use Rattle.std.proofs.Common.{◌≡◌, ◌++◌, drop}
use Rattle.std.specs.List.{flat_map}
use Rattle.certificate_check.specs.Printed.{pair_text}
use Rattle.certificate_check.proofs.print.put_key.Given as goal

abbrev pub invariant-loop-pair : goal.invariant-loop-pair
invariant-loop-pair l = l.out ++ flat_map pair_text (drop l.pair-index l.key) ≡ l.fn.out ++ flat_map pair_text l.key
