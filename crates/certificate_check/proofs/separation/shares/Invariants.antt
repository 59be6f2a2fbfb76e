use Rattle.std.proofs.Common.{◌≡◌, false}
use Rattle.certificate_check.specs.Separation.{shares_below}
use Rattle.certificate_check.proofs.separation.shares.Given as goal

abbrev pub invariant-loop-class : goal.invariant-loop-class
invariant-loop-class l = shares_below l.case l.class ≡ false
