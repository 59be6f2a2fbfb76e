use Rattle.std.proofs.Common.{◌≡◌, false, take}
use Rattle.std.specs.List.{list_any}
use Rattle.ground_clauses.specs.Derivations.{same_num}
use Rattle.certificate_check.proofs.falses.among.Given as goal

abbrev pub invariant-loop-other : goal.invariant-loop-other
invariant-loop-other l = list_any (same_num l.lit) (take l.other-index l.lits) ≡ false
