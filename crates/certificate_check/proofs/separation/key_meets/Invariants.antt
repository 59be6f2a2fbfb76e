use Rattle.std.proofs.Common.{◌≡◌, true, take}
use Rattle.std.specs.List.{list_all}
use Rattle.certificate_check.specs.Separation.{pair_meets}
use Rattle.certificate_check.proofs.separation.key_meets.Given as goal

abbrev pub invariant-loop-pair : goal.invariant-loop-pair
invariant-loop-pair l = list_all (pair_meets l.spec l.case) (take l.pair-index l.key) ≡ true
