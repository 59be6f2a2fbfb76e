use Rattle.std.proofs.Common.{◌≡◌, drop}
use Rattle.certificate_check.specs.Fitting.{rises}
use Rattle.certificate_check.proofs.fitting.rises.Given as goal

abbrev pub invariant-loop-pair : goal.invariant-loop-pair
invariant-loop-pair l = rises l.least (drop l.pair-index l.key) ≡ rises 0 l.key
